use Rattle.std.proofs.Common.{◌≡◌, ◌-◌, List, length, take, sym, ap, ◌∙◌, map, slice_set, vec_len, arith}
use Rattle.std.proofs.lemmas.List.{map-set}
use Rattle.tile_core.specs.declared.station.Station.{Station}
use Rattle.live_run.specs.inner.Hands.{but_last}
use Rattle.live_run.specs.inner.Workers.{hand}
use Rattle.live_run.proofs.Hands.{hand_at}
use Rattle.live_run.proofs.crew.take_from.Goals as goal

pub returns-clause-left : goal.returns-clause-left
returns-clause-left c =
    let crew = c.args.crew.now.items in
    let there = hand_at crew c.args.place c.index_mut.result.now (omega arith) c.index_mut.ensures.value in
    let stations = c.index_mut.result.now.group.stations in
    let long : vec_len stations ≡ length stations.items = omega arith in
    map-set hand crew c.args.place _
    ∙ ap (λ (held : List Station). slice_set (map hand crew) c.args.place held)
    (c.pop.ensures.rest ∙ ap (λ n. take (n - 1) c.index_mut.result.now.group.stations.items) long ∙ ap (λ (held : List Station). but_last held) (sym there))
