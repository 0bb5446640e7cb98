-- The ports of a tile keep the sizes of their queues.
use Rattle.std.proofs.Common.{◌≡◌, ℕ, suc, ◌<◌, List, [], ◌∷◌, length, map, get_or, slice_set, Option, Some, None, All, refl, sym, ap, ◌∙◌, arith}
use Rattle.std.proofs.lemmas.List.{get_or-map, length-map, map-set, set-get_or, same_lists}
use Rattle.std.proofs.lemmas.List.Elements.{All-set, All-map}
use Rattle.std.proofs.lemmas.Map.Made.{IsDistinct-from_AllPairs}
use Rattle.std.proofs.lemmas.Bool.Decides.{Decides-eqb}
use Rattle.ni_port.specs.SizedPort.{SizedPort}
use Rattle.platform_model.specs.declared.platform.Platform.{Platform}
use Rattle.bundle_model.specs.declared.bundle.Part.{Part}
use Rattle.bundle_model.specs.WellFormed.{IsWellFormedPart}
use Rattle.part_model.proofs.Laws.{AreSamePorts}
use Rattle.tile_mmio.specs.Ports.{no_port, own_ports, put_ports, AreNumbers, AreOwn}
use Rattle.tile_mmio.proofs.Laws.{length-own_ports, own_at}
use Rattle.tile_core.specs.Slot.{with_port}

-- the sizes of the queues of ports
abbrev pub queues_of : List SizedPort → List ℕ
queues_of ports = map (λ (port : SizedPort). port.queue) ports

-- all of one size
abbrev pub AreSized : ℕ → List SizedPort → Type 0
AreSized queue ports = All (λ (port : SizedPort). port.queue ≡ queue) ports

-- as many ports of one size have the same sizes
pub same_queues : (queue : ℕ) (before after : List SizedPort) → length after ≡ length before → AreSized queue before → AreSized queue after → queues_of after ≡ queues_of before
same_queues queue before after size were are =
    let count : length (queues_of after) ≡ length (queues_of before) = length-map after (λ (p : SizedPort). p.queue) ∙ size ∙ sym (length-map before (λ (p : SizedPort). p.queue)) in
    same_lists (queues_of after) (queues_of before) count (λ k d below.
    let low : k < length after = let e = length-map after (λ (p : SizedPort). p.queue) in omega arith in
    let old : k < length before = omega arith in
    get_or-map (λ (p : SizedPort). p.queue) after k no_port d low ∙ are k no_port low
    ∙ sym (get_or-map (λ (p : SizedPort). p.queue) before k no_port d old ∙ were k no_port old))

-- ports with the sizes of others are of their size
pub sized_as : (queue : ℕ) (before after : List SizedPort) → queues_of after ≡ queues_of before → AreSized queue before → AreSized queue after
sized_as queue before after same were = λ k d below.
    let size : length after ≡ length before = sym (length-map after (λ (p : SizedPort). p.queue)) ∙ ap (λ (ns : List ℕ). length ns) same ∙ length-map before (λ (p : SizedPort). p.queue) in
    let old : k < length before = omega arith in
    sym (get_or-map (λ (p : SizedPort). p.queue) after k d 0 below) ∙ ap (λ (ns : List ℕ). get_or ns k 0) same ∙ get_or-map (λ (p : SizedPort). p.queue) before k d 0 old ∙ were k d old

pub same_count : (before after : List SizedPort) → queues_of after ≡ queues_of before → length after ≡ length before
same_count before after same = sym (length-map after (λ (p : SizedPort). p.queue)) ∙ ap (λ (ns : List ℕ). length ns) same ∙ length-map before (λ (p : SizedPort). p.queue)

-- ports of the size that are put among them
pub sized_put : (queue : ℕ) (ports : List SizedPort) (numbers : List ℕ) (own : List SizedPort) → AreSized queue ports → AreSized queue own → AreSized queue (put_ports ports numbers own)
unfolding put_ports
sized_put queue ports [] own are is = are
sized_put queue ports (n ∷ numbers) [] are is = are
sized_put queue ports (n ∷ numbers) (port ∷ own) are is =
    sized_put queue (slice_set ports n port) numbers own
    (All-set (λ (p : SizedPort). p.queue ≡ queue) ports n port (is 0 port (omega arith)) are) (λ k d below. is (suc k) d (omega (arith, below)))

pub sized_each : (port : SizedPort) (numbers : List ℕ) → AreSized port.queue (map (λ number. port) numbers)
sized_each port numbers = All-map (λ (p : SizedPort). p.queue ≡ port.queue) (λ (number : ℕ). port) numbers (λ k d below. refl)

pub sized_own : (queue : ℕ) (ports : List SizedPort) (numbers : List ℕ) → AreSized queue ports → AreNumbers ports numbers → AreSized queue (own_ports ports numbers)
sized_own queue ports numbers are within = λ k d below.
    let low : k < length numbers = let e = length-own_ports ports numbers in omega arith in
    ap (λ (p : SizedPort). p.queue) (own_at ports numbers k d low) ∙ are (get_or numbers k 0) no_port (within k 0 low)

pub sized_ran : (queue : ℕ) (before after : List SizedPort) → AreSamePorts before after → AreSized queue before → AreSized queue after
sized_ran queue before after same were = λ k d below.
    let low : k < length before = let e = same.count in omega arith in
    (same.each k d low).queue ∙ were k d low

-- a port that changed keeps its size
set_queues : (change : SizedPort → SizedPort) → ((port : SizedPort) → (change port).queue ≡ port.queue) → (ports : List SizedPort) (number : ℕ) → queues_of (slice_set ports number (change (get_or ports number no_port))) ≡ queues_of ports
set_queues change keeps ports number =
    map-set (λ (p : SizedPort). p.queue) ports number (change (get_or ports number no_port))
    ∙ ap (λ (queue : ℕ). slice_set (queues_of ports) number queue) (keeps (get_or ports number no_port))
    ∙ sym (map-set (λ (p : SizedPort). p.queue) ports number (get_or ports number no_port))
    ∙ ap queues_of (set-get_or ports number no_port)

pub port_queues : (change : SizedPort → SizedPort) → ((port : SizedPort) → (change port).queue ≡ port.queue) → (number : Option ℕ) (ports : List SizedPort) → queues_of (with_port change number ports) ≡ queues_of ports
port_queues change keeps None ports = refl
port_queues change keeps (Some number) ports = set_queues change keeps ports number

-- the ports of a part that breaks no rule are its own
pub part_own : (platform : Platform) (part : Part) (ports : List SizedPort) → IsWellFormedPart platform part → length ports ≡ platform.ports → AreOwn ports part.ports
part_own platform part ports formed size = record {
  within = λ k d below. let low = formed.ports_exist k d below in omega arith;
  apart = IsDistinct-from_AllPairs Decides-eqb part.ports formed.ports_differ;
}
