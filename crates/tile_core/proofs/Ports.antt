-- The ports of a tile's parts: what happens to one part's leaves those of every other.
use Rattle.std.proofs.Common.{◌≡◌, ℕ, suc, ◌+◌, ◌<◌, ◌≤◌, ◌⊎◌, ◌==◌, false, cond, List, [], ◌∷◌, get_or, slice_set, length, map, Option, Some, None, refl, sym, ap, ap₂, ◌∙◌, inl, inr, arith}
use Rattle.std.specs.Option.{option_map_or}
use Rattle.std.proofs.lemmas.Bool.{cases_eq, eq-eqb, ne_eqb}
use Rattle.std.proofs.lemmas.List.{get_or-set_same, get_or-set_other, length-map, length-set}
use Rattle.soc_base.specs.declared.region.Region.{Region}
use Rattle.bundle_model.specs.declared.bundle.Part.{Part}
use Rattle.ni_port.specs.SizedPort.{SizedPort}
use Rattle.part_model.specs.Part.{PartState}
use Rattle.tile_mmio.specs.Ports.{no_port, own_ports, AreNumbers, AreOwn, each_port}
use Rattle.tile_mmio.proofs.Laws.{own_put, others_own, length-put_ports}
use Rattle.tile_core.specs.Slot.{with_each, with_port}
use Rattle.tile_core.specs.Views.{with_own}

-- two regions share no byte
abbrev pub ArePartedRegions : Region → Region → Type 0
ArePartedRegions one other = (one.base + one.len ≤ other.base) ⊎ (other.base + other.len ≤ one.base)

-- no number of the one is a number of the other
abbrev pub ArePartedPorts : List ℕ → List ℕ → Type 0
ArePartedPorts one other = (k j : ℕ) → k < length one → j < length other → get_or one k 0 ≡ get_or other j 0 → ⊥

-- two parts share no byte and no port
pub record ArePartedParts (one other : Part) : Type 0 where
  pub regions : ArePartedRegions one.region other.region
  pub ports : ArePartedPorts one.ports other.ports

pub parted_sym : (one other : Part) → ArePartedParts one other → ArePartedParts other one
parted_sym one other parted = record {
  regions = elim parted.regions [ inl before ↦ inr before | inr behind ↦ inl behind ];
  ports = λ k j low inside same. parted.ports j k inside low (sym same);
}

-- numbers are ports of every tile that has as many
pub own_as : (before after : List SizedPort) (numbers : List ℕ) → length after ≡ length before → AreOwn before numbers → AreOwn after numbers
own_as before after numbers size own = record { within = λ k d below. rw size (own.within k d below); apart = own.apart }

-- one port in the place of each of a part's
pub length-with_each : (port : SizedPort) (numbers : List ℕ) (ports : List SizedPort) → length (with_each port numbers ports) ≡ length ports
length-with_each port numbers ports = length-put_ports ports numbers (map (λ (number : ℕ). port) numbers)

pub each_own : (port : SizedPort) (numbers : List ℕ) (ports : List SizedPort) → AreOwn ports numbers → own_ports (with_each port numbers ports) numbers ≡ map (λ (number : ℕ). port) numbers
each_own port numbers ports own = own_put ports numbers (map (λ (number : ℕ). port) numbers) own (length-map numbers (λ (number : ℕ). port))

pub each_others : (port : SizedPort) (numbers theirs : List ℕ) (ports : List SizedPort) → ArePartedPorts numbers theirs → own_ports (with_each port numbers ports) theirs ≡ own_ports ports theirs
each_others port numbers theirs ports apart = others_own ports numbers (map (λ (number : ℕ). port) numbers) theirs apart

-- the change of one port, by the numbers of all
abbrev pub change_at : (SizedPort → SizedPort) → Option ℕ → ℕ → SizedPort → SizedPort
change_at change at number port = cond (option_map_or (λ (n : ℕ). n == number) at false) (change port) port

one_changed : (change : SizedPort → SizedPort) (at number : ℕ) (ports : List SizedPort) → number < length ports → get_or (slice_set ports at (change (get_or ports at no_port))) number no_port ≡ cond (at == number) (change (get_or ports number no_port)) (get_or ports number no_port)
one_changed change at number ports inside = elim (cases_eq at number) [
  | inl same ↦
      ap (λ (n : ℕ). get_or (slice_set ports n (change (get_or ports n no_port))) number no_port) same
      ∙ get_or-set_same ports number (change (get_or ports number no_port)) no_port inside
      ∙ sym (ap (λ b. cond b (change (get_or ports number no_port)) (get_or ports number no_port)) (eq-eqb at number same))
  | inr apart ↦
      get_or-set_other ports at number (change (get_or ports at no_port)) no_port (λ same. apart (sym same))
      ∙ sym (ap (λ b. cond b (change (get_or ports number no_port)) (get_or ports number no_port)) (ne_eqb at number apart))
]

-- where one port of the tile changes, a part's own do by their numbers
pub own_changed : (change : SizedPort → SizedPort) (at : Option ℕ) (ports : List SizedPort) (numbers : List ℕ) → AreNumbers ports numbers → own_ports (with_port change at ports) numbers ≡ each_port (change_at change at) numbers (own_ports ports numbers)
unfolding own_ports
own_changed change None ports [] within = refl
own_changed change (Some at) ports [] within = refl
own_changed change None ports (n ∷ numbers) within =
    ap (λ (ps : List SizedPort). get_or ports n no_port ∷ ps) (own_changed change None ports numbers (λ k d below. within (suc k) d (omega (arith, below))))
own_changed change (Some at) ports (n ∷ numbers) within =
    ap₂ (λ (p : SizedPort) (ps : List SizedPort). p ∷ ps) (one_changed change at n ports (within 0 0 (omega arith)))
    (own_changed change (Some at) ports numbers (λ k d below. within (suc k) d (omega (arith, below))))

pub length-with_port : (change : SizedPort → SizedPort) (at : Option ℕ) (ports : List SizedPort) → length (with_port change at ports) ≡ length ports
length-with_port change None ports = refl
length-with_port change (Some at) ports = length-set ports at (change (get_or ports at no_port))

-- a part that is granted, with its ports changed by their numbers
abbrev pub with_own_if : (ℕ → SizedPort → SizedPort) → Option ℕ → Option Part → PartState → PartState
with_own_if change None part view = view
with_own_if change (Some start) None view = view
with_own_if change (Some start) (Some part) view = with_own change part view
