-- What is proved of this crate's definitions, for the proofs of the crates above. They cite this file
-- alone.

-- lists whose items have different keys, and what is found in a list
pub use Rattle.bundle_model.proofs.Keyed.{AreKeyed, at_place, keyed_pairs, contained_place, found_place, found_at, none_found, filtered_place, filtered_at, filtered_keyed}
pub use Rattle.bundle_model.proofs.Places.{mapped_place, find_map, no_place, passing_place}
-- of the grants that are present in a slot at most one holds a resource
pub use Rattle.bundle_model.proofs.Present.{IsPresent, lasts_less, present_now, present_next, present_unmet, meets_itself, PresentHolder, one_holder}
-- the parts of grants: those that stand in one slot share nothing
pub use Rattle.bundle_model.proofs.Meeting.{AreDisjoint, HasPart}
pub use Rattle.bundle_model.proofs.Holders.{same_so, same_label-itself, sound_bundle, IsPartOn, is_part_on, grant_bundle, StandingPart, standing_disjoint}
-- the parts and channels of a well-formed bundle, each by its place
pub use Rattle.bundle_model.proofs.Channels.{part_at, way_at, one_source, one_target, one_part, one_port, one_claim, end_on_tile}
-- where a claim stands among the resources
pub use Rattle.bundle_model.proofs.Flat.{append_front, append_back, offset, flat_at}
pub use Rattle.bundle_model.proofs.ClaimPlaces.{way_claims, resources_by_way, passage_claim, arrival_claim, claim_place, claim_held, port_held}
