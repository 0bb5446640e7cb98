-- Grants that begin and end in a slot.
use Rattle.std.specs.Prelude.{◌≡◌, ℕ, ◌<◌, ◌≤◌, ◌==◌, Bool, true, false, ◌&&◌, not, List, nat_lt}
use Rattle.std.specs.List.{list_all}
use Rattle.std.specs.Option.{option_map_or}
use Rattle.bundle_model.specs.declared.world.Grant.{Grant}

-- the grant ends in a slot, having begun before
abbrev pub ends_in : ℕ → Grant → Bool
ends_in slot grant = option_map_or (λ end. end == slot && nat_lt grant.start end) grant.end false

-- the grant begins in a slot, and has no end or a later one
abbrev pub begins_in : ℕ → Grant → Bool
begins_in slot grant = grant.start == slot && option_map_or (λ end. nat_lt slot end) grant.end true

-- whether the grant neither ends nor begins in a slot
abbrev pub stays_in : ℕ → Grant → Bool
stays_in slot grant = not (ends_in slot grant) && not (begins_in slot grant)

-- whether no grant ends or begins in a slot
abbrev pub is_quiet : List Grant → ℕ → Bool
is_quiet grants slot = list_all (stays_in slot) grants

-- all slots from one on and below another are quiet
abbrev pub AreQuiet : List Grant → ℕ → ℕ → Type 0
AreQuiet grants from below = (slot : ℕ) → from ≤ slot → slot < below → is_quiet grants slot ≡ true
