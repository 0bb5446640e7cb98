-- The machine follows its grants in every slot in which all tiles are in step.
use Rattle.std.proofs.Common.{◌≡◌, ℕ, zero, suc, ◌+◌, ◌<◌, min, max, List, Option, Some, None, refl, sym, subst, arith}
use Rattle.std.specs.Option.{option_map_or}
use Rattle.soc_base.specs.Steps.{after_steps}
use Rattle.soc_base.specs.Port.{WordAndCredits}
use Rattle.bundle_model.specs.declared.bundle.Part.{Part}
use Rattle.bundle_model.specs.declared.world.World.{World}
use Rattle.bundle_model.specs.declared.world.LoadName.{LoadName}
use Rattle.bundle_model.specs.declared.world.Grant.{Grant}
use Rattle.bundle_model.specs.World.{IsSoundCatalog}
use Rattle.trace_log.specs.Log.{new_log}
use Rattle.lockstep.specs.Lockstep.{Machine, fresh_machine, machine_slot, lockstep}
use Rattle.tile_core.specs.Tile.{TileState, fresh_tile}
use Rattle.tile_core.specs.Views.{place_grant}
use Rattle.tile_core.specs.Lockstep.{tile_hardware, machine_at}
use Rattle.tile_core.proofs.Laws.{site_of, fresh_begins, holds_first}
use Rattle.event_core.specs.Links.{LinksFollow}
use Rattle.event_core.proofs.Settled.{IsSettled, none_stands}
use Rattle.event_core.proofs.Wiring.{from_below}
use Rattle.event_core.proofs.Views.{view_by, view_at, opening_log}
use Rattle.event_core.proofs.Slots.{IsGrantOn}
use Rattle.event_core.proofs.Follows.{FollowsOn, Follows, grant_on, tile_next}
use Rattle.event_core.proofs.Links.{link_next}

-- before the first slot each grant's part is as it opens
stop_first : (start : ℕ) (end : Option ℕ) → max start (option_map_or (λ e. min e 0) end 0) ≡ start
stop_first start None = omega arith
stop_first start (Some end) = omega arith

first_log : (world : World) (grants : List Grant) (number : ℕ) (grant : Option Grant) (part : Part) → IsSoundCatalog world → ((g : Grant) → grant ≡ Some g → IsGrantOn world grants number part g) → (view_by world 0 number grant (Some part)).log ≡ new_log part.trace
first_log world grants number None part sound is = refl
first_log world grants number (Some grant) part sound is = opening_log world grant 0 number part sound (is grant refl).on (stop_first grant.start grant.end)

fresh_follows : (world : World) (loads : List LoadName) (grants : List Grant) (number : ℕ) → IsSettled world loads grants → number < world.platform.tiles → FollowsOn world loads grants 0 number (fresh_tile world loads number)
fresh_follows world loads grants number so low =
    let tile = fresh_tile world loads number in
    let begins = fresh_begins world loads grants number low in
    let site = site_of world loads grants tile so.sound so.apart so.of_loads begins.made in
    record {
      at = begins.at;
      number_is = begins.number_is;
      made = begins.made;
      fits = begins.fits;
      holds = holds_first world loads grants number (view_at world grants 0 tile) so.sound low (λ place part there.
          let P : Option Part → Type 0 = λ p. (view_by world 0 tile.number (place_grant grants tile place) p).log ≡ new_log part.trace in
          subst P (sym there) (first_log world grants tile.number (place_grant grants tile place) part so.sound.catalog (λ g is. grant_on world loads grants tile place part g site there is)));
    }

pub follows_first : (world : World) (loads : List LoadName) (grants : List Grant) → IsSettled world loads grants → Follows world loads grants 0 (fresh_machine (tile_hardware world loads))
follows_first world loads grants so = record {
  tiles = λ number low. fresh_follows world loads grants number so low;
  links = λ number link there. record { claimed = λ p. absurd (none_stands world grants p.injection.holder); free = λ none. refl };
}

-- over a slot of the machine
pub follows_next : (world : World) (loads : List LoadName) (grants : List Grant) (slot : ℕ) (machine : Machine TileState WordAndCredits) → IsSettled world loads grants → Follows world loads grants slot machine
    → Follows world loads grants (slot + 1) (machine_slot (tile_hardware world loads) world.platform.links grants machine)
follows_next world loads grants slot machine so follows = record {
  tiles = λ number low. tile_next world loads grants slot number (machine.tile number) machine.carried so (follows.tiles number low) follows.links;
  links = λ number link there. link_next world loads grants slot (machine.tile link.from) machine.carried so follows.links number link there (follows.tiles link.from (from_below world.platform number link there));
}

-- THE LAW: in every slot in which all tiles are in step the machine follows its grants
pub machine_follows : (world : World) (loads : List LoadName) (grants : List Grant) (slots : ℕ) → IsSettled world loads grants → Follows world loads grants slots (machine_at world loads grants slots)
unfolding lockstep after_steps
machine_follows world loads grants zero so = follows_first world loads grants so
machine_follows world loads grants (suc n) so =
    let more : n + 1 ≡ suc n = omega arith in
    subst (λ (u : ℕ). Follows world loads grants u (machine_slot (tile_hardware world loads) world.platform.links grants (machine_at world loads grants n))) more
    (follows_next world loads grants n (machine_at world loads grants n) so (machine_follows world loads grants n so))

pub links_follow : LinksFollow
links_follow world loads grants slot number link sound apart of there =
    (machine_follows world loads grants slot (record { sound = sound; apart = apart; of_loads = of })).links number link there
