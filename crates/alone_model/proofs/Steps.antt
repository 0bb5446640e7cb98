-- What the engine's steps of a slot come to.
use Rattle.std.proofs.Common.{◌≡◌, ℕ, ◌+◌, ◌-◌, ◌*◌, ◌%◌, List, [], ◌∷◌, ◌++◌, map, filter, not, length, get_or, All, refl, sym, ap, ap₂, ◌∙◌, arith}
use Rattle.std.proofs.lemmas.List.{length-map}
use Rattle.std.proofs.lemmas.List.Elements.{All-map, All-weaker, All-head, All-tail}
use Rattle.soc_base.specs.Time.{runs}
use Rattle.soc_base.specs.Slots.{slots_of}
use Rattle.ni_port.specs.SizedPort.{SizedPort, granted_sized}
use Rattle.ni_port.specs.SizedPort.{in_state}
use Rattle.std.proofs.lemmas.List.{length-set}
use Rattle.platform_model.specs.declared.platform.Platform.{Platform}
use Rattle.platform_model.specs.Platform.{frame_of}
use Rattle.bundle_model.specs.declared.bundle.Part.{Part}
use Rattle.bundle_model.specs.declared.bundle.Bundle.{Bundle}
use Rattle.bundle_model.specs.Ways.{ways_of}
use Rattle.part_model.proofs.Laws.{IsKept, cycle_keeps}
use Rattle.alone_model.specs.declared.exchange.Sender.{Sender}
use Rattle.alone_model.specs.declared.exchange.Arrival.{Arrival}
use Rattle.alone_model.specs.Network.{AppPart, Flying, with_ports, injected, new_flits, is_due, delivered}
use Rattle.alone_model.specs.App.{AppState, place_of, opening_part, with_new, with_due}
use Rattle.alone_model.specs.Slots.{part_cycles, app_slot}
use Rattle.alone_model.specs.inner.Stretch.{part_steps, HasItsPorts}
use Rattle.alone_model.specs.inner.Exchange.{senders_of, after_leaving, flit_of, arrivals_of, after_arriving}
use Rattle.alone_model.proofs.Cycle.{map_twice}
use Rattle.alone_model.proofs.Kept.{IsKeptInSlots, cycles_keep, app_keeps, step_by}
use Rattle.alone_model.proofs.Channels.{senders_flits, leaving_injects, arriving_delivers, none_arrives}
use Rattle.alone_model.proofs.Ports.{each_port_length, with_ports_same, with_ports_still}

-- changes that agree on the items of a list
map_agree : {X Y : Type 0} (P : X → Type 0) (f g : X → Y) (xs : List X) → ((x : X) → P x → f x ≡ g x) → All P xs → map f xs ≡ map g xs
map_agree P f g [] same all = refl
map_agree {X} {Y} P f g (x ∷ xs) same all =
    ap₂ (λ (y : Y) (ys : List Y). y ∷ ys) (same x (All-head P x xs all)) (map_agree P f g xs same (All-tail P x xs all))

map_still : {X : Type 0} (P : X → Type 0) (f : X → X) (xs : List X) → ((x : X) → P x → f x ≡ x) → All P xs → map f xs ≡ xs
map_still P f [] still all = refl
map_still {X} P f (x ∷ xs) still all =
    ap₂ (λ (y : X) (ys : List X). y ∷ ys) (still x (All-head P x xs all)) (map_still P f xs still (All-tail P x xs all))

map_same : {X Y : Type 0} (f g : X → Y) (xs : List X) → ((x : X) → f x ≡ g x) → map f xs ≡ map g xs
map_same f g [] same = refl
map_same {X} {Y} f g (x ∷ xs) same = ap₂ (λ (y : Y) (ys : List Y). y ∷ ys) (same x) (map_same f g xs same)

no_items : {X : Type 0} (xs : List X) → length xs ≡ 0 → xs ≡ []
no_items [] none = refl
no_items (x ∷ xs) none = absurd (omega arith)

-- a part keeps the number of its ports
count_kept : (n : ℕ) → IsKept (λ bytes ports log. length ports ≡ n)
count_kept n = record {
  store = λ bytes ports log addr width value done count. count;
  put = λ bytes ports log number port word after there done count. length-set ports number (in_state port after) ∙ count;
  take = λ bytes ports log number port taken there done count. length-set ports number (in_state port taken.1) ∙ count;
  row = λ bytes ports log row count. count;
  end = λ bytes ports log end count. count;
}

pub ports_kept : (platform : Platform) (bundle : Bundle) (start : ℕ) → IsKeptInSlots platform bundle start HasItsPorts
ports_kept platform bundle start = record {
  injects = λ slot p count. each_port_length (injected platform bundle slot p.part.tile) p.part.ports p.state.ports count;
  steps = λ cycle p count.
      step_by platform start cycle HasItsPorts p (runs (frame_of platform) (slots_of p.part.slots) start cycle) _ count
      (cycle_keeps (λ bytes ports log. length ports ≡ length p.part.ports) (count_kept (length p.part.ports)) platform.costs (place_of p.part) cycle p.state count);
  delivers = λ flying slot p count. each_port_length (delivered bundle flying slot p.part.tile) p.part.ports p.state.ports count;
}

opening_count : (platform : Platform) (part : Part) → HasItsPorts (opening_part platform part)
opening_count platform part = length-map part.ports (λ (n : ℕ). granted_sized platform.queue)

pub opening_ports : (platform : Platform) (parts : List Part) → All HasItsPorts (map (opening_part platform) parts)
opening_ports platform parts = All-map HasItsPorts (opening_part platform) parts (λ k d inside. opening_count platform (get_or parts k d))

pub steps_ports : (platform : Platform) (bundle : Bundle) (start from n : ℕ) (parts : List AppPart) → All HasItsPorts parts
    → All HasItsPorts (map (part_steps platform start from n) parts)
steps_ports platform bundle start from n parts count =
    All-map HasItsPorts (part_steps platform start from n) parts
    (All-weaker HasItsPorts (λ p. HasItsPorts (part_steps platform start from n p)) (λ p one. cycles_keep platform bundle start HasItsPorts (ports_kept platform bundle start) from n p one) parts count)

changed_count : (f : ℕ → ℕ → SizedPort → SizedPort) (p : AppPart) → HasItsPorts p → HasItsPorts (with_ports f p)
changed_count f p count = each_port_length (f p.part.tile) p.part.ports p.state.ports count

changed_ports : (f : ℕ → ℕ → SizedPort → SizedPort) (parts : List AppPart) → All HasItsPorts parts
    → All HasItsPorts (map (with_ports f) parts)
changed_ports f parts count =
    All-map HasItsPorts (with_ports f) parts (All-weaker HasItsPorts (λ p. HasItsPorts (with_ports f p)) (changed_count f) parts count)

-- after the injections of a slot too
pub sent_ports : (platform : Platform) (bundle : Bundle) (slot : ℕ) (app : AppState) → All HasItsPorts app.parts
    → All HasItsPorts (with_new platform bundle slot app).parts
sent_ports platform bundle slot app count = changed_ports (injected platform bundle slot) app.parts count

-- the parts after the senders of a slot left their ports
leaving_parts : (platform : Platform) (bundle : Bundle) (slot : ℕ) (parts : List AppPart)
    → map (with_ports (after_leaving (senders_of (slot % platform.table_slots) 0 (ways_of bundle)))) parts
    ≡ map (with_ports (injected platform bundle slot)) parts
leaving_parts platform bundle slot parts =
    let f = after_leaving (senders_of (slot % platform.table_slots) 0 (ways_of bundle)) in
    let g = injected platform bundle slot in
    map_same (with_ports f) (with_ports g) parts (λ p. with_ports_same f g p (λ n port. leaving_injects platform bundle slot p.part.tile n port))

-- a slot in which no channel injects
pub none_leaves : (platform : Platform) (bundle : Bundle) (slot : ℕ) (senders : List Sender) (app : AppState)
    → senders ≡ senders_of (slot % platform.table_slots) 0 (ways_of bundle) → length senders ≡ 0 → All HasItsPorts app.parts
    → app ≡ with_new platform bundle slot app
none_leaves platform bundle slot senders app are none count =
    let list = senders_of (slot % platform.table_slots) 0 (ways_of bundle) in
    let empty : list ≡ [] = sym are ∙ no_items senders none in
    let fresh : new_flits platform app.parts slot 0 (ways_of bundle) ≡ [] = sym (senders_flits platform app.parts slot 0 (ways_of bundle)) ∙ ap (map (flit_of app.parts slot)) empty in
    let still : map (with_ports (after_leaving list)) app.parts ≡ app.parts = ap (λ (ss : List Sender). map (with_ports (after_leaving ss)) app.parts) empty
    ∙ map_still HasItsPorts (with_ports (after_leaving [])) app.parts (λ p one. with_ports_still (after_leaving []) p (λ n port. refl) one) count in
    sym (ap₂ (λ (parts : List AppPart) (flying : List Flying). record { parts = parts; flying = flying ++ app.flying })
    (sym (leaving_parts platform bundle slot app.parts) ∙ still) fresh)

-- and one in which some do
pub some_leave : (platform : Platform) (bundle : Bundle) (slot : ℕ) (senders : List Sender) (flights : List Flying) (app : AppState)
    → senders ≡ senders_of (slot % platform.table_slots) 0 (ways_of bundle) → flights ≡ map (flit_of app.parts slot) senders
    → record { parts = map (with_ports (after_leaving senders)) app.parts; flying = flights ++ app.flying } ≡ with_new platform bundle slot app
some_leave platform bundle slot senders flights app are made =
    let fresh : flights ≡ new_flits platform app.parts slot 0 (ways_of bundle) = made ∙ ap (map (flit_of app.parts slot)) are ∙ senders_flits platform app.parts slot 0 (ways_of bundle) in
    ap₂ (λ (parts : List AppPart) (flying : List Flying). record { parts = parts; flying = flying ++ app.flying })
    (ap (λ (ss : List Sender). map (with_ports (after_leaving ss)) app.parts) are ∙ leaving_parts platform bundle slot app.parts) fresh

-- the parts after the arrivals of a slot
arriving_parts : (bundle : Bundle) (flying : List Flying) (slot : ℕ) (parts : List AppPart)
    → map (with_ports (after_arriving (arrivals_of bundle slot flying))) parts ≡ map (with_ports (delivered bundle flying slot)) parts
arriving_parts bundle flying slot parts =
    let f = after_arriving (arrivals_of bundle slot flying) in
    let g = delivered bundle flying slot in
    map_same (with_ports f) (with_ports g) parts (λ p. with_ports_same f g p (λ n port. arriving_delivers bundle flying slot p.part.tile n port))

-- a slot in which nothing is due
pub none_due : (bundle : Bundle) (slot : ℕ) (arrivals : List Arrival) (app : AppState)
    → arrivals ≡ arrivals_of bundle slot app.flying → length arrivals ≡ 0 → All HasItsPorts app.parts
    → app ≡ with_due bundle slot app
none_due bundle slot arrivals app are none count =
    let empty : arrivals_of bundle slot app.flying ≡ [] = sym are ∙ no_items arrivals none in
    let still : map (with_ports (after_arriving (arrivals_of bundle slot app.flying))) app.parts ≡ app.parts =
    ap (λ (aa : List Arrival). map (with_ports (after_arriving aa)) app.parts) empty
    ∙ map_still HasItsPorts (with_ports (after_arriving [])) app.parts (λ p one. with_ports_still (after_arriving []) p (λ n port. refl) one) count in
    sym (ap₂ (λ (parts : List AppPart) (flying : List Flying). record { parts = parts; flying = flying })
    (sym (arriving_parts bundle app.flying slot app.parts) ∙ still) (none_arrives bundle slot app.flying empty))

-- and one in which something is
pub some_due : (bundle : Bundle) (slot : ℕ) (arrivals : List Arrival) (app : AppState)
    → arrivals ≡ arrivals_of bundle slot app.flying
    → record { parts = map (with_ports (after_arriving arrivals)) app.parts; flying = filter (λ f. not (is_due bundle slot f)) app.flying } ≡ with_due bundle slot app
some_due bundle slot arrivals app are =
    ap (λ (parts : List AppPart). record { parts = parts; flying = filter (λ f. not (is_due bundle slot f)) app.flying })
    (ap (λ (aa : List Arrival). map (with_ports (after_arriving aa)) app.parts) are ∙ arriving_parts bundle app.flying slot app.parts)

-- injections, cycles and deliveries are the slot
pub slot_done : (platform : Platform) (bundle : Bundle) (start slot to : ℕ) (app sent ran done : AppState)
    → sent ≡ with_new platform bundle slot app
    → ran ≡ record sent { parts = map (part_steps platform start (slot * platform.slot_cycles) (to - slot * platform.slot_cycles)) sent.parts }
    → to ≡ slot * platform.slot_cycles + platform.slot_cycles → done ≡ with_due bundle slot ran
    → done ≡ app_slot platform bundle start slot app
slot_done platform bundle start slot to app sent ran done injects runs_on until delivers =
    let len : ℕ = platform.slot_cycles in
    let begun = with_new platform bundle slot app in
    let count : to - slot * len ≡ len = omega arith in
    let ran_is : ran ≡ record begun { parts = map (part_cycles platform start slot) begun.parts } =
    runs_on ∙ ap₂ (λ (a : AppState) (n : ℕ). record a { parts = map (part_steps platform start (slot * len) n) a.parts }) injects count in
    let f : AppPart → AppPart = with_ports (delivered bundle begun.flying slot) in
    let g : AppPart → AppPart = part_cycles platform start slot in
    let h : AppPart → AppPart = with_ports (injected platform bundle slot) in
    delivers ∙ ap (with_due bundle slot) ran_is
    ∙ ap (λ (parts : List AppPart). record { parts = parts; flying = filter (λ x. not (is_due bundle slot x)) begun.flying })
    (ap (map f) (map_twice g h app.parts) ∙ map_twice f (λ p. g (h p)) app.parts)

-- a slot keeps the number of each part's ports
pub app_ports : (platform : Platform) (bundle : Bundle) (start slot : ℕ) (app : AppState) → All HasItsPorts app.parts
    → All HasItsPorts (app_slot platform bundle start slot app).parts
app_ports platform bundle start slot app count = app_keeps platform bundle start HasItsPorts (ports_kept platform bundle start) slot app count
