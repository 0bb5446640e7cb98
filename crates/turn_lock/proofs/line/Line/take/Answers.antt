use Rattle.std.proofs.Common.{◌∷◌, Some, ap, sym, ◌∙◌}
use Rattle.atomic_table.specs.Table.{rest}
use Rattle.turn_lock.proofs.line.Line.take.Goals as goal

pub exchange-requires : goal.exchange-requires
exchange-requires g c =
    let (value, held) = c.requires.full in
    (c.requires.at.0, (Some value, held ∙ ap (λ l. (0, Some value) ∷ l) (sym (ap rest held))))
