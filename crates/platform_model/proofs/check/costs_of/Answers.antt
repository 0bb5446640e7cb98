use Rattle.std.proofs.Common.{◌≡◌, ℕ, ◌<◌, List, ◌∷◌, [], ℤ, pos, true, get_or, w64, to_z, of_z, lit<}
use Rattle.soc_base.specs.declared.limits.TheConstants.{MOST_COST}
use Rattle.platform_model.specs.Limits.{is_within}
use Rattle.platform_model.specs.Rules.{is_cost, are_costs}
use Rattle.platform_model.specs.declared.raw.RawCosts.{RawCosts}
use Rattle.platform_model.proofs.Passing.{all_at}
use Rattle.platform_model.proofs.Ranges.{within_read}
use Rattle.platform_model.proofs.check.costs_of.Goals as goal

abbrev listed : RawCosts → List ℤ
listed costs = costs.integer ∷ costs.mul ∷ costs.div ∷ costs.load ∷ costs.store ∷ costs.taken ∷ costs.untaken ∷ costs.jump ∷ costs.device ∷ costs.system ∷ []

-- each cost of a table is in its range
cost_read : (costs : RawCosts) (place : ℕ) → are_costs costs ≡ true → place < 10 → is_within (to_z w64 (of_z w64 (get_or (listed costs) place (pos 0)))) (pos 1) (pos MOST_COST) ≡ true
cost_read costs place all inside = within_read (get_or (listed costs) place (pos 0)) 1 MOST_COST (lit< tt) (all_at is_cost (listed costs) place (pos 0) all inside)

pub cost-requires-7 : goal.cost-requires-7
cost-requires-7 c = cost_read c.args.raw.now 6 c.requires (lit< tt)

pub cost-requires-8 : goal.cost-requires-8
cost-requires-8 c = cost_read c.args.raw.now 7 c.requires (lit< tt)

pub cost-requires-9 : goal.cost-requires-9
cost-requires-9 c = cost_read c.args.raw.now 8 c.requires (lit< tt)

pub cost-requires-10 : goal.cost-requires-10
cost-requires-10 c = cost_read c.args.raw.now 9 c.requires (lit< tt)
