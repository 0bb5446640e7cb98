use Rattle.std.proofs.Common.{ℕ, List, get_or, slice_get, position, Option, IsSome, sym, ap, subst, ◌∙◌, arith}
use Rattle.std.proofs.lemmas.Bool.{eqb-true}
use Rattle.std.proofs.lemmas.Option.{slice_get_within, get_or_from_slice_get}
use Rattle.flit_link.specs.declared.ends.LinkOut.{LinkOut}
use Rattle.flit_link.specs.declared.ends.LinkIn.{LinkIn}
use Rattle.tile_core.specs.declared.wire.Wire.{Wire}
use Rattle.tile_core.specs.declared.station.Station.{Station}
use Rattle.tile_core.specs.Wires.{out_seen, in_seen, but_flits}
use Rattle.serial_run.specs.inner.Hops.{is_out_of, is_in_of}
use Rattle.serial_run.proofs.Placed.{some_place, placed}
use Rattle.serial_run.proofs.Found.{out_end_at, in_end_at}
use Rattle.serial_run.proofs.hops.find_hop.Goals as goal

pub unwrap-requires : goal.unwrap-requires
unwrap-requires c =
    let find = c.requires in
    let of = ap (λ tile. get_or c.args.stations.now tile c.index-stations-from.result) c.from-from.ensures
    ∙ get_or_from_slice_get c.args.stations.now c.args.link.from find.sender c.index-stations-from.result find.from in
    let outs = c.as_slice.ensures.value ∙ ap (λ (s : Station). s.outs.items) of in
    let Is = λ (place : Option ℕ). IsSome place in
    subst Is (sym (c.place_out.ensures ∙ ap (λ (wires : List (Wire LinkOut)). position (is_out_of c.args.number)
    wires) outs))
    (some_place (is_out_of c.args.number) find.sender.outs.items find.out find.out_is)

pub bounds-stations-to : goal.bounds-stations-to
bounds-stations-to c =
    let inside = slice_get_within c.args.stations.now c.args.link.to c.requires.receiver c.requires.to in
    omega (arith, inside, c.from-to.ensures)

pub unwrap-requires-2 : goal.unwrap-requires-2
unwrap-requires-2 c =
    let find = c.requires in
    let of = ap (λ tile. get_or c.args.stations.now tile c.index-stations-to.result) c.from-to.ensures
    ∙ get_or_from_slice_get c.args.stations.now c.args.link.to find.receiver c.index-stations-to.result find.to in
    let ins = c.as_slice-2.ensures.value ∙ ap (λ (s : Station). s.ins.items) of in
    let Is = λ (place : Option ℕ). IsSome place in
    subst Is (sym (c.place_in.ensures ∙ ap (λ (wires : List (Wire LinkIn)). position (is_in_of c.args.number)
    wires) ins))
    (some_place (is_in_of c.args.number) find.receiver.ins.items find.input find.input_is)

pub returns : goal.returns
returns c =
    let find = c.requires in
    let stations = c.args.stations.now in
    let of_s = ap (λ tile. get_or stations tile c.index-stations-from.result) c.from-from.ensures
    ∙ get_or_from_slice_get stations c.args.link.from find.sender c.index-stations-from.result find.from in
    let outs = c.as_slice.ensures.value ∙ ap (λ (s : Station). s.outs.items) of_s in
    let out_place = sym (c.place_out.ensures
    ∙ ap (λ (wires : List (Wire LinkOut)). position (is_out_of c.args.number) wires) outs) ∙ c.unwrap.ensures in
    let of_r = ap (λ tile. get_or stations tile c.index-stations-to.result) c.from-to.ensures
    ∙ get_or_from_slice_get stations c.args.link.to find.receiver c.index-stations-to.result find.to in
    let ins = c.as_slice-2.ensures.value ∙ ap (λ (s : Station). s.ins.items) of_r in
    let in_place = sym (c.place_in.ensures ∙ ap
    (λ (wires : List (Wire LinkIn)). position (is_in_of c.args.number) wires) ins) ∙ c.unwrap-2.ensures in
    let (out_at, out_is) = placed (is_out_of c.args.number) find.sender.outs.items find.out c.unwrap.result
    find.out_is out_place in
    let (in_at, in_is) = placed (is_in_of c.args.number) find.receiver.ins.items find.input c.unwrap-2.result
    find.input_is in_place in
    record {
      from = c.from-from.ensures;
      to = c.from-to.ensures;
      ends = record {
        out = but_flits (out_seen find.out);
        input = but_flits (in_seen find.input);
        out_is = out_end_at stations c.from-from.result c.unwrap.result find.sender find.out
            (ap (slice_get stations) c.from-from.ensures ∙ find.from) out_at;
        input_is = in_end_at stations c.from-to.result c.unwrap-2.result find.receiver find.input
            (ap (slice_get stations) c.from-to.ensures ∙ find.to) in_at;
        out_link = eqb-true find.out.link c.args.number out_is;
        input_link = eqb-true find.input.link c.args.number in_is;
        ring = find.ends;
        apart = λ same. find.apart (sym c.from-from.ensures ∙ same ∙ c.from-to.ensures);
      };
    }
