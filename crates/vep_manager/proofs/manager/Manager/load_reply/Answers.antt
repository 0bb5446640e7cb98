use Rattle.std.proofs.Common.{◌≡◌, Some, Ok, Err, sym, ap, ◌∙◌, rules}
use Rattle.std.specs.List.{find, slice_get}
use Rattle.std.specs.Option.{option_map}
use Rattle.bundle_model.specs.World.{same_label}
use Rattle.vep_manager.specs.Replies.{load_reply, fits_reply}
use Rattle.vep_manager.proofs.Nexts.{judged_found, held_found}
use Rattle.vep_manager.proofs.manager.Manager.load_reply.Goals as goal

pub returns-in-Ok : goal.returns-in-Ok
returns-in-Ok c =
    let setup = c.args.self.now.setup in
    let history = c.args.self.now.history in
    let here : find (λ l. same_label l.label c.args.label) setup.loads ≡ Some c.in-Some.load.now = search rules in
    let file : slice_get setup.world.catalog c.in-Some.load.now.bundle ≡ Some c.in-Some-get.named.now =
    search rules in
    let judged = judged_found setup c.args.label c.in-Some.load.now c.in-Some-get.named.now (Ok c.in-Ok.field-0) here
    file c.in-Ok.is in
    let held = held_found setup.world c.in-Some.load.now.bundle c.in-Some-get.named.now c.in-Ok.field-0 file
    c.in-Ok.is in
    ap Some (c.granted_or_taken.ensures ∙ ap (fits_reply setup history c.args.label c.args.start) held)
    ∙ sym (ap (option_map (load_reply setup history c.args.label c.args.start)) judged)

pub returns-in-Err : goal.returns-in-Err
returns-in-Err c =
    let setup = c.args.self.now.setup in
    let history = c.args.self.now.history in
    let here : find (λ l. same_label l.label c.args.label) setup.loads ≡ Some c.in-Some.load.now = search rules in
    let file : slice_get setup.world.catalog c.in-Some.load.now.bundle ≡ Some c.in-Some-get.named.now =
    search rules in
    let judged = judged_found setup c.args.label c.in-Some.load.now c.in-Some-get.named.now (Err c.in-Err.rule) here
    file c.in-Err.is in
    sym (ap (option_map (load_reply setup history c.args.label c.args.start)) judged)
