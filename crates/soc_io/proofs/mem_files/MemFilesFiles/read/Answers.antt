use Rattle.std.proofs.Common.{◌≡◌, ◌∙◌, ap, subst}
use Rattle.soc_io.specs.Reading.{Held, ReadsHeld, held_at}
use Rattle.soc_io.proofs.mem_files.MemFilesFiles.read.Goals as goal

-- the files that were searched are those that are told
pub returns-clause-answer : goal.returns-clause-answer
returns-clause-answer c =
    let Answers : Held → Type 0 = λ held. ReadsHeld (held_at held c.args.name.now) c.args.self.now.faults c.self.inside.count c.copy_found.new.into.items c.copy_found.result in
    let held : c.as_slice-2.result.now ≡ c.args.self.now.held = c.as_slice-2.ensures.value ∙ ap (λ s. s.held) c.self.view_is in
    subst Answers held (c.copy_found.ensures.answer c.args.self.now.faults c.self.inside.count)
