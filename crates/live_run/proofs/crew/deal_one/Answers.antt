use Rattle.std.proofs.Common.{◌≡◌, ◌%◌, ◌++◌, ◌∷◌, [], Option, map, vec_len, slice_set, get_or, ap, ap₂, ◌∙◌}
use Rattle.std.specs.Option.{option_to_list}
use Rattle.tile_core.specs.declared.station.Station.{Station}
use Rattle.live_run.specs.inner.Workers.{hand}
use Rattle.live_run.proofs.Hands.{if_ok_more}
use Rattle.live_run.proofs.crew.deal_one.Goals as goal

pub returns-clause-dealt : goal.returns-clause-dealt
returns-clause-dealt c =
    let hands = map hand c.args.crew.now.items in
    let station = c.unwrap-station.result in
    let place : c.len.result % c.len-2.result ≡ vec_len c.pop.new.self % vec_len c.args.crew.now =
    ap₂ (λ m n. m % n) c.len.ensures c.len-2.ensures in
    if_ok_more c.hand_to.result c.hand_to.ensures.handed (λ x handed. record {
      item = station;
      was_last = c.pop.ensures.items
          ∙ ap (λ (o : Option Station). c.pop.new.self.items ++ option_to_list o) c.unwrap-station.ensures;
      handed = handed ∙ ap (λ p. slice_set hands p (get_or hands p [] ++ station ∷ [])) place;
    })
