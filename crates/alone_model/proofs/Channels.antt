-- The channels of a bundle by their numbers, and what they do in a slot.
use Rattle.std.proofs.Common.{◌≡◌, ℕ, zero, suc, ◌+◌, ◌*◌, ◌/◌, ◌%◌, Bool, true, false, cond, ◌&&◌, ◌||◌, ◌==◌, List, [], ◌∷◌, map, filter, find, not, length, slice_get, Option, Some, None, is_some, refl, sym, ap, ap₂, ◌∙◌, arith}
use Rattle.std.specs.List.{flat_map, cons_option, list_any}
use Rattle.std.specs.Option.{option_and_then, option_map_or}
use Rattle.std.proofs.lemmas.Option.{none-some, same_Some}
use Rattle.soc_base.specs.Time.{is_among}
use Rattle.soc_base.specs.Port.{inject}
use Rattle.ni_port.specs.SizedPort.{SizedPort, after_inject, after_deliver}
use Rattle.platform_model.specs.declared.platform.Platform.{Platform}
use Rattle.bundle_model.specs.declared.bundle.Pair.{Pair}
use Rattle.bundle_model.specs.declared.bundle.Bundle.{Bundle}
use Rattle.bundle_model.specs.Ways.{Way, way_of, pair_ways, ways_of}
use Rattle.alone_model.specs.declared.exchange.Sender.{Sender}
use Rattle.alone_model.specs.declared.exchange.Arrival.{Arrival}
use Rattle.alone_model.specs.Network.{AppPart, Flying, is_end, port_of, injected, new_flits, is_due, lands, delivered}
use Rattle.alone_model.specs.inner.Exchange.{senders_of, leaves, after_leaving, flit_of, arrival_of, arrivals_of, after_arriving}

and_true : (b : Bool) → (b && true) ≡ b
and_true true = refl
and_true false = refl

and_false : (b : Bool) → (b && false) ≡ false
and_false true = refl
and_false false = refl

pub there_at : (pairs : List Pair) (k : ℕ) (pair : Pair) → slice_get pairs k ≡ Some pair
    → slice_get (flat_map pair_ways pairs) (k * 2) ≡ Some (way_of pair.a pair.b pair.there)
there_at [] k pair at = absurd (none-some pair at)
there_at (first ∷ pairs) zero pair at = ap (λ (p : Pair). Some (way_of p.a p.b p.there)) (same_Some first pair at)
there_at (first ∷ pairs) (suc k) pair at =
    let e : suc k * 2 ≡ suc (suc (k * 2)) = omega arith in
    ap (slice_get (flat_map pair_ways (first ∷ pairs))) e ∙ there_at pairs k pair at

pub back_at : (pairs : List Pair) (k : ℕ) (pair : Pair) → slice_get pairs k ≡ Some pair
    → slice_get (flat_map pair_ways pairs) (k * 2 + 1) ≡ Some (way_of pair.b pair.a pair.back)
back_at [] k pair at = absurd (none-some pair at)
back_at (first ∷ pairs) zero pair at = ap (λ (p : Pair). Some (way_of p.b p.a p.back)) (same_Some first pair at)
back_at (first ∷ pairs) (suc k) pair at =
    let e : suc k * 2 + 1 ≡ suc (suc (k * 2 + 1)) = omega arith in
    ap (slice_get (flat_map pair_ways (first ∷ pairs))) e ∙ back_at pairs k pair at

-- the channel there of a pair has an even number
pub way_there : (bundle : Bundle) (number : ℕ) (pair : Pair) → slice_get bundle.pairs (number / 2) ≡ Some pair → number % 2 ≡ 0
    → slice_get (ways_of bundle) number ≡ Some (way_of pair.a pair.b pair.there)
way_there bundle number pair at even =
    let e : number ≡ number / 2 * 2 = omega arith in
    ap (slice_get (ways_of bundle)) e ∙ there_at bundle.pairs (number / 2) pair at

-- the channel back has an odd number
pub way_back : (bundle : Bundle) (number : ℕ) (pair : Pair) → slice_get bundle.pairs (number / 2) ≡ Some pair → number % 2 ≡ 1
    → slice_get (ways_of bundle) number ≡ Some (way_of pair.b pair.a pair.back)
way_back bundle number pair at odd =
    let e : number ≡ number / 2 * 2 + 1 = omega arith in
    ap (slice_get (ways_of bundle)) e ∙ back_at bundle.pairs (number / 2) pair at

-- and there are no others
pub no_way : (bundle : Bundle) (number : ℕ) → slice_get bundle.pairs (number / 2) ≡ None → slice_get (ways_of bundle) number ≡ None
no_way bundle number none = by bundle.pairs number none
  where
    by : (pairs : List Pair) (n : ℕ) → slice_get pairs (n / 2) ≡ None → slice_get (flat_map pair_ways pairs) n ≡ None
    by [] n none = refl
    by (pair ∷ pairs) zero none = absurd (none-some pair (sym none))
    by (pair ∷ pairs) (suc zero) none = absurd (none-some pair (sym none))
    by (pair ∷ pairs) (suc (suc n)) none =
        let e : suc (suc n) / 2 ≡ suc (n / 2) = omega arith in
        by pairs n (sym (ap (slice_get (pair ∷ pairs)) e) ∙ none)

-- a flit at the end of a channel
abbrev arrived : Flying → Way → Arrival
arrived f way = record { to = way.to; flit = f.flit }

due_by : (b : Bool) (a : Arrival) → is_some (cond b (Some a) None) ≡ b
due_by true a = refl
due_by false a = refl

-- a flit is due where it arrives
pub due_arrives : (bundle : Bundle) (slot : ℕ) (f : Flying) → is_some (arrival_of bundle slot f) ≡ is_due bundle slot f
due_arrives bundle slot f = by (slice_get (ways_of bundle) f.number)
  where
    by : (way : Option Way)
        → is_some (option_and_then (λ (way : Way). cond (f.since + length way.path == slot) (Some (arrived f way)) None) way)
        ≡ option_map_or (λ (way : Way). f.since + length way.path == slot) way false
    by None = refl
    by (Some way) = due_by (f.since + length way.path == slot) (arrived f way)

-- the flits that are injected in a slot are those of its senders
one_flit : (parts : List AppPart) (slot number : ℕ) (way : Way) (b : Bool) (senders : List Sender) (rest : List Flying)
    → map (flit_of parts slot) senders ≡ rest
    → map (flit_of parts slot) (cons_option (cond b (Some (record { number = number; from = way.from })) None) senders)
    ≡ cond b (record { number = number; since = slot; flit = (inject (port_of parts way.from)).0 } ∷ rest) rest
one_flit parts slot number way true senders rest same =
    ap (λ (fs : List Flying). record { number = number; since = slot; flit = (inject (port_of parts way.from)).0 } ∷ fs) same
one_flit parts slot number way false senders rest same = same

pub senders_flits : (platform : Platform) (parts : List AppPart) (slot number : ℕ) (ways : List Way)
    → map (flit_of parts slot) (senders_of (slot % platform.table_slots) number ways) ≡ new_flits platform parts slot number ways
senders_flits platform parts slot number [] = refl
senders_flits platform parts slot number (way ∷ ways) =
    one_flit parts slot number way (is_among (slot % platform.table_slots) way.slots) _ _ (senders_flits platform parts slot (number + 1) ways)

-- a channel leaves a port in a slot where a sender of the slot does
one_leaves : (tile port number : ℕ) (way : Way) (b : Bool) (senders : List Sender) (rest : Bool) → leaves senders tile port ≡ rest
    → leaves (cons_option (cond b (Some (record { number = number; from = way.from })) None) senders) tile port
    ≡ (is_end tile port way.from && b || rest)
one_leaves tile port number way true senders rest same =
    ap₂ (λ here later. here || later) (sym (and_true (is_end tile port way.from))) same
one_leaves tile port number way false senders rest same =
    same ∙ ap (λ here. here || rest) (sym (and_false (is_end tile port way.from)))

pub senders_leave : (row tile port number : ℕ) (ways : List Way)
    → leaves (senders_of row number ways) tile port ≡ list_any (λ way. is_end tile port way.from && is_among row way.slots) ways
senders_leave row tile port number [] = refl
senders_leave row tile port number (way ∷ ways) =
    one_leaves tile port number way (is_among row way.slots) _ _ (senders_leave row tile port (number + 1) ways)

-- so the ports of a slot's senders are those that inject in it
pub leaving_injects : (platform : Platform) (bundle : Bundle) (slot tile port : ℕ) (p : SizedPort)
    → after_leaving (senders_of (slot % platform.table_slots) 0 (ways_of bundle)) tile port p ≡ injected platform bundle slot tile port p
leaving_injects platform bundle slot tile port p =
    ap (λ b. cond b (after_inject p) p) (senders_leave (slot % platform.table_slots) tile port 0 (ways_of bundle))

-- what arrives at a port
one_arrives : (tile port : ℕ) (p : SizedPort) (f : Flying) (way : Way) (b : Bool) (arrivals : List Arrival) (flying : Option Flying)
    → option_map_or (λ (a : Arrival). after_deliver a.flit p) (find (λ (a : Arrival). is_end tile port a.to) arrivals) p
    ≡ option_map_or (λ (f : Flying). after_deliver f.flit p) flying p
    → option_map_or (λ (a : Arrival). after_deliver a.flit p)
    (find (λ (a : Arrival). is_end tile port a.to) (cons_option (cond b (Some (arrived f way)) None) arrivals)) p
    ≡ option_map_or (λ (f : Flying). after_deliver f.flit p) (cond (is_end tile port way.to && b) (Some f) flying) p
one_arrives tile port p f way true arrivals flying same = by (is_end tile port way.to)
  where
    by : (here : Bool) → option_map_or (λ (a : Arrival). after_deliver a.flit p) (cond here (Some (arrived f way)) (find (λ (a : Arrival). is_end tile port a.to) arrivals)) p
        ≡ option_map_or (λ (f : Flying). after_deliver f.flit p) (cond (here && true) (Some f) flying) p
    by true = refl
    by false = same
one_arrives tile port p f way false arrivals flying same = by (is_end tile port way.to)
  where
    by : (here : Bool) → option_map_or (λ (a : Arrival). after_deliver a.flit p) (find (λ (a : Arrival). is_end tile port a.to) arrivals) p
        ≡ option_map_or (λ (f : Flying). after_deliver f.flit p) (cond (here && false) (Some f) flying) p
    by true = same
    by false = same

-- so the ports of a slot's arrivals are those at which its flits are delivered
pub arriving_delivers : (bundle : Bundle) (flying : List Flying) (slot tile port : ℕ) (p : SizedPort)
    → after_arriving (arrivals_of bundle slot flying) tile port p ≡ delivered bundle flying slot tile port p
arriving_delivers bundle [] slot tile port p = refl
arriving_delivers bundle (f ∷ flying) slot tile port p =
    by (slice_get (ways_of bundle) f.number) (arriving_delivers bundle flying slot tile port p)
  where
    by : (way : Option Way) → after_arriving (arrivals_of bundle slot flying) tile port p ≡ delivered bundle flying slot tile port p
        → option_map_or (λ (a : Arrival). after_deliver a.flit p)
        (find (λ (a : Arrival). is_end tile port a.to)
        (cons_option (option_and_then (λ (way : Way). cond (f.since + length way.path == slot) (Some (arrived f way)) None) way) (arrivals_of bundle slot flying))) p
        ≡ option_map_or (λ (g : Flying). after_deliver g.flit p)
        (cond (option_map_or (λ (way : Way). is_end tile port way.to && f.since + length way.path == slot) way false) (Some f) (find (lands bundle slot tile port) flying)) p
    by None rest = rest
    by (Some way) rest = one_arrives tile port p f way (f.since + length way.path == slot) (arrivals_of bundle slot flying) (find (lands bundle slot tile port) flying) rest

-- where nothing arrives, every flit stays on its way
pub none_arrives : (bundle : Bundle) (slot : ℕ) (flying : List Flying) → arrivals_of bundle slot flying ≡ []
    → filter (λ f. not (is_due bundle slot f)) flying ≡ flying
none_arrives bundle slot [] none = refl
none_arrives bundle slot (f ∷ flying) none = by (arrival_of bundle slot f) (none_arrives bundle slot flying) refl none
  where
    by : (a : Option Arrival) → (arrivals_of bundle slot flying ≡ [] → filter (λ f. not (is_due bundle slot f)) flying ≡ flying) → arrival_of bundle slot f ≡ a → cons_option a (arrivals_of bundle slot flying) ≡ []
        → filter (λ f. not (is_due bundle slot f)) (f ∷ flying) ≡ f ∷ flying
    by None rest is empty =
        let still : is_due bundle slot f ≡ false = sym (due_arrives bundle slot f) ∙ ap (λ (a : Option Arrival). is_some a) is in
        ap (λ b. cond (not b) (f ∷ filter (λ f. not (is_due bundle slot f)) flying) (filter (λ f. not (is_due bundle slot f)) flying)) still
        ∙ ap (λ (fs : List Flying). f ∷ fs) (rest empty)
    by (Some a) rest is some = let no : a ∷ arrivals_of bundle slot flying ≡ [] = some in absurd (cc)
