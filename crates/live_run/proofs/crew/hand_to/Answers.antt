use Rattle.std.proofs.Common.{List, ◌∷◌, ◌++◌, [], map, slice_set, sym, ap, ◌∙◌, arith}
use Rattle.std.proofs.Math.Seq.{map-set_same}
use Rattle.std.proofs.lemmas.List.{map-set}
use Rattle.tile_core.specs.declared.station.Station.{Station}
use Rattle.live_run.specs.inner.Workers.{hand, schedule_of}
use Rattle.live_run.proofs.Hands.{hand_at}
use Rattle.live_run.proofs.crew.hand_to.Goals as goal

pub returns-in_err-push-clause-schedules : goal.returns-in_err-push-clause-schedules
returns-in_err-push-clause-schedules c =
    map-set_same schedule_of c.args.crew.now.items c.args.place _ c.index_mut.result.now
    (ap schedule_of c.index_mut.ensures.value)

pub returns-clause-handed : goal.returns-clause-handed
returns-clause-handed c =
    let crew = c.args.crew.now.items in
    let there = hand_at crew c.args.place c.index_mut.result.now (omega arith) c.index_mut.ensures.value in
    map-set hand crew c.args.place _
    ∙ ap (λ (held : List Station). slice_set (map hand crew) c.args.place held)
    (c.in_ok-push.ensures.items ∙ ap (λ (held : List Station). held ++ c.args.station ∷ []) (sym there))

pub returns-clause-schedules : goal.returns-clause-schedules
returns-clause-schedules c =
    map-set_same schedule_of c.args.crew.now.items c.args.place _ c.index_mut.result.now
    (ap schedule_of c.index_mut.ensures.value)
