-- At the end of a run the tiles hold of each granted application what it has alone.
use Rattle.std.proofs.Common.{◌≡◌, ℕ, ◌<◌, ◌≤◌, max, Bool, true, false, cond, ◌==◌, nat_eq, List, [], ◌∷◌, ◌++◌, length, map, get_or, fold, find, sum_by, slice_get, option_map, Option, Some, None, Result, Ok, Err, All, IfOk, IsSome, zero, suc, length-append, refl, sym, ap, subst, ◌∙◌, arith}
use Rattle.std.specs.List.{flat_map, range_with_len, IsDistinct}
use Rattle.std.specs.Option.{option_map_or, option_and_then}
use Rattle.std.proofs.lemmas.List.Concat.{flat_map_single}
use Rattle.std.proofs.lemmas.List.Elements.{All-nil, All-head, All-tail, All-cons, All-from_recursion}
use Rattle.std.proofs.lemmas.List.FromFn.{get_or-range_with_len, length-range_with_len}
use Rattle.std.proofs.lemmas.List.Sums.{sum_by-cons}
use Rattle.std.proofs.lemmas.Map.Keys.{IsDistinct-head, IsDistinct-tail}
use Rattle.std.proofs.lemmas.Option.{slice_get-map, slice_get-get_or}
use Rattle.soc_base.specs.declared.label.Label.{Label}
use Rattle.trace_log.specs.Log.{Log}
use Rattle.bundle_model.specs.declared.bundle.Part.{Part}
use Rattle.bundle_model.specs.declared.bundle.Bundle.{Bundle}
use Rattle.bundle_model.specs.declared.rules.BRule.{BRule}
use Rattle.bundle_model.specs.declared.world.Named.{Named}
use Rattle.bundle_model.specs.declared.world.World.{World}
use Rattle.bundle_model.specs.declared.world.Grant.{Grant}
use Rattle.bundle_model.specs.Grants.{bundle_at, kept_bundle}
use Rattle.bundle_model.specs.WellFormed.{IsWellFormed, IsWellFormedPart}
use Rattle.bundle_model.specs.World.{IsSoundCatalog}
use Rattle.alone_model.specs.Network.{AppPart}
use Rattle.alone_model.specs.App.{AppState, alone_at}
use Rattle.alone_model.specs.Trace.{part_trace}
use Rattle.alone_model.proofs.Laws.{alone_parts, alone_fits}
use Rattle.tile_core.specs.declared.station.Station.{Station}
use Rattle.tile_core.specs.Tile.{TileState, log_of}
use Rattle.tile_core.specs.Lockstep.{tiles_at}
use Rattle.vep_manager.specs.declared.setup.Setup.{Setup}
use Rattle.vep_manager.specs.Setup.{IsSound}
use Rattle.vep_manager.specs.History.{grants_of}
use Rattle.vep_manager.specs.Legal.{IsLegal}
use Rattle.serial_run.specs.declared.end.RunEnd.{RunEnd}
use Rattle.serial_run.specs.Run.{EndsInStep, tiles_of}
use Rattle.event_core.specs.Stands.{alone_part, stop_slot}
use Rattle.report_text.specs.inner.Room.{bundle_rows, most_rows}
use Rattle.report_text.specs.inner.Logs.{log_on, rows_on, traces_on, HoldsAlone}
use Rattle.report_text.proofs.RowCounts.{few_parts}
use Rattle.vep_manager.proofs.Laws.{sound_world, legal_apart, grants_of_loads}
use Rattle.event_core.proofs.Laws.{logs_are_alone, tiles_numbered}

-- a bundle of the catalog is well-formed, and its rows are at most the most rows
max_grows : (most : ℕ) (xs : List ℕ) → most ≤ fold (λ most rows. max most rows) most xs
max_grows most [] = omega arith
max_grows most (x ∷ xs) = omega (arith, max_grows (max most x) xs)

max_reaches : (most : ℕ) (xs : List ℕ) (i : ℕ) (x : ℕ) → slice_get xs i ≡ Some x
    → x ≤ fold (λ most rows. max most rows) most xs
max_reaches most [] i x is = cc
max_reaches most (y ∷ xs) zero x is = let e : y ≡ x = cc in omega (arith, max_grows (max most y) xs, e)
max_reaches most (y ∷ xs) (suc i) x is = max_reaches (max most y) xs i x is

kept_ok : (judged : Result Bundle BRule) (bundle : Bundle) → kept_bundle judged ≡ Some bundle → judged ≡ Ok bundle
kept_ok (Ok other) bundle is = let e : other ≡ bundle = cc in ap Ok e
kept_ok (Err rule) bundle is = cc

-- the named bundle at a place
record IsNamed (world : World) (place : ℕ) (bundle : Bundle) : Type 0 where
  pub named : Named
  pub at : slice_get world.catalog place ≡ Some named
  pub judged : named.judged ≡ Ok bundle

named_from : (world : World) (place : ℕ) (bundle : Bundle) (found : Option Named)
    → slice_get world.catalog place ≡ found → option_and_then (λ named. kept_bundle named.judged) found ≡ Some bundle
    → IsNamed world place bundle
named_from world place bundle (Some named) at is =
    record { named = named; at = at; judged = kept_ok named.judged bundle is }
named_from world place bundle None at is = cc

named_at : (world : World) (place : ℕ) (bundle : Bundle) → bundle_at world place ≡ Some bundle
    → IsNamed world place bundle
named_at world place bundle is = named_from world place bundle (slice_get world.catalog place) refl is

all_at : {X : Type 0} (P : X → Type 0) (xs : List X) (i : ℕ) (x : X) → All P xs → slice_get xs i ≡ Some x → P x
all_at P [] i x all is = cc
all_at P (y ∷ xs) zero x all is = let e : y ≡ x = cc in subst P e (All-head P y xs all)
all_at P (y ∷ xs) (suc i) x all is = all_at P xs i x (All-tail P y xs all) is

well_formed : (world : World) (place : ℕ) (bundle : Bundle) → IsSoundCatalog world
    → bundle_at world place ≡ Some bundle → IsWellFormed world.platform bundle
well_formed world place bundle sound is =
    let n = named_at world place bundle is in
    let P : Result Bundle BRule → Type 0 = λ judged. IfOk judged (IsWellFormed world.platform) in
    subst P n.judged (all_at (λ named. IfOk named.judged (IsWellFormed world.platform)) world.catalog place n.named
    sound n.at)

few_enough : (world : World) (place : ℕ) (bundle : Bundle) → bundle_at world place ≡ Some bundle
    → sum_by (λ part. part.trace) bundle.parts ≤ most_rows world
few_enough world place bundle is =
    let n = named_at world place bundle is in
    let at : slice_get (map (λ named. bundle_rows named.judged) world.catalog) place
    ≡ Some (bundle_rows n.named.judged) =
    slice_get-map (λ named. bundle_rows named.judged) world.catalog place
    ∙ ap (option_map (λ named. bundle_rows named.judged)) n.at in
    let P : ℕ → Type 0 = λ rows. rows ≤ most_rows world in
    subst P (ap bundle_rows n.judged) (max_reaches 0 _ place _ at)

-- of parts on different tiles each is the first on its tile
finds_later : (b : Bool) (p : AppPart) (rest found : Option AppPart) → b ≡ false → rest ≡ found
    → cond b (Some p) rest ≡ found
finds_later true p rest found e is = cc
finds_later false p rest found e is = is

finds_first : (b : Bool) (p : AppPart) (rest : Option AppPart) → b ≡ true → cond b (Some p) rest ≡ Some p
finds_first true p rest e = refl
finds_first false p rest e = cc

pub All-unmap : {X Y : Type 0} (P : Y → Type 0) (f : X → Y) (xs : List X) → All P (map f xs) → All (λ x. P (f x)) xs
All-unmap P f [] all = All-nil (λ x. P (f x))
All-unmap P f (x ∷ xs) all =
    All-cons (λ y. P (f y)) x xs (All-head P (f x) (map f xs) all)
    (All-unmap P f xs (All-tail P (f x) (map f xs) all))

found_among : (ps : List AppPart) → IsDistinct nat_eq (map (λ p. p.part.tile) ps)
    → All (λ p. find (λ q. q.part.tile == p.part.tile) ps ≡ Some p) ps
found_among [] distinct = All-nil (λ p. find (λ q. q.part.tile == p.part.tile) [] ≡ Some p)
found_among (p ∷ ps) distinct =
    let tiles : List ℕ = map (λ q. q.part.tile) ps in
    let others : All (λ r. nat_eq p.part.tile r.part.tile ≡ false) ps =
    All-unmap (λ tile. nat_eq p.part.tile tile ≡ false) (λ q. q.part.tile) ps
    (All-from_recursion (λ tile. nat_eq p.part.tile tile ≡ false) tiles
    (IsDistinct-head nat_eq p.part.tile tiles distinct)) in
    let rest = found_among ps (IsDistinct-tail nat_eq p.part.tile tiles distinct) in
    let same : nat_eq p.part.tile p.part.tile ≡ true = grind arith in
    All-cons (λ r. find (λ q. q.part.tile == r.part.tile) (p ∷ ps) ≡ Some r) p ps
    (finds_first _ p _ same)
    (λ k d inside. finds_later _ p _ _ (others k d inside) (rest k d inside))

-- what is told of each part by its tile is told of the application
same_rows : {Y : Type 0} (f : Part → List Y) (g : AppPart → List Y) (ps : List AppPart) → All (λ p. f p.part ≡ g p) ps
    → flat_map f (map (λ p. p.part) ps) ≡ flat_map g ps
same_rows f g [] all = refl
same_rows f g (p ∷ ps) all =
    ap (λ t. t ++ flat_map f (map (λ q. q.part) ps)) (All-head (λ q. f q.part ≡ g q) p ps all)
    ∙ ap (λ t. g p ++ t) (same_rows f g ps (All-tail (λ q. f q.part ≡ g q) p ps all))

rows_fit : (ps : List AppPart) → All (λ p. length p.state.log.rows ≤ p.part.trace) ps
    → length (flat_map (λ p. p.state.log.rows) ps) ≤ sum_by (λ part. part.trace) (map (λ p. p.part) ps)
rows_fit [] all = omega arith
rows_fit (p ∷ ps) all =
    let P : AppPart → Type 0 = λ q. length q.state.log.rows ≤ q.part.trace in
    omega (
      arith,
      length-append p.state.log.rows (flat_map (λ q. q.state.log.rows) ps),
      All-head P p ps all,
      rows_fit
          ps (All-tail P p ps all),
      sum_by-cons (λ part. part.trace) p.part (map (λ q. q.part) ps),
    )

-- tile number n at place n
record IsTileAt (tiles : List TileState) (n : ℕ) : Type 0 where
  pub tile : TileState
  pub at : slice_get tiles n ≡ Some tile
  pub number : tile.number ≡ n

tile_from : (tiles : List TileState) (n : ℕ) (found : Option TileState) → slice_get tiles n ≡ found
    → option_map (λ tile. tile.number) found ≡ Some n → IsTileAt tiles n
tile_from tiles n (Some tile) at is = record { tile = tile; at = at; number = cc }
tile_from tiles n None at is = cc

tile_at : (tiles : List TileState) (count n : ℕ) → map (λ tile. tile.number) tiles ≡ range_with_len 0 count
    → n < count → IsTileAt tiles n
tile_at tiles count n numbered inside =
    let within : n < length (range_with_len 0 count) = omega (arith, length-range_with_len 0 count) in
    let number : get_or (range_with_len 0 count) n 0 ≡ n = omega (arith, get_or-range_with_len 0 count n 0 inside) in
    let in_range : slice_get (range_with_len 0 count) n ≡ Some n =
    slice_get-get_or (range_with_len 0 count) n 0 within ∙ ap Some number in
    tile_from tiles n (slice_get tiles n) refl (sym (slice_get-map (λ tile. tile.number) tiles n)
    ∙ ap (λ numbers. slice_get numbers n) numbered ∙ in_range)

log_from : (label : Label) (station : Option Station) (tile : TileState)
    → option_map (λ s. s.tile) station ≡ Some tile
    → option_and_then (λ s. log_of s.tile label) station ≡ log_of tile label
log_from label (Some station) tile is = let e : station.tile ≡ tile = cc in ap (λ t. log_of t label) e
log_from label None tile is = cc

some_of : {X : Type 0} (o : Option X) → IsSome o → (x : X) × (o ≡ Some x)
some_of (Some x) is = (x, refl)
some_of None is = cc

-- the part of the application alone on a tile
alone_found : (world : World) (grant : Grant) (bundle : Bundle) (stop : ℕ) (p : AppPart) (number : ℕ)
    → bundle_at world grant.bundle ≡ Some bundle → number ≡ p.part.tile
    → find (λ q. q.part.tile == p.part.tile) (alone_at world.platform bundle grant.start stop).parts ≡ Some p
    → option_map (λ state. state.log) (alone_part world grant stop number) ≡ Some p.state.log
alone_found world grant bundle stop p number known is found =
    let of_app : Option AppState → Option Log =
    λ app. option_map (λ state. state.log)
    (option_and_then (λ a. option_map (λ q. q.state) (find (λ q. q.part.tile == number) a.parts)) app) in
    let of_number : ℕ → Option Log =
    λ n. option_map (λ state. state.log)
    (option_map (λ q. q.state)
    (find (λ q. q.part.tile == n) (alone_at world.platform bundle grant.start stop).parts)) in
    ap (λ b. of_app (option_map (λ bundle. alone_at world.platform bundle grant.start stop) b)) known
    ∙ ap of_number is ∙ ap (λ q. option_map (λ state. state.log) (option_map (λ r. r.state) q)) found

-- the tile holds of a grant the log that its part there has alone up to a slot, if it has a part there
abbrev HoldsLog : Setup → Grant → ℕ → TileState → Type 0
HoldsLog setup grant stop tile =
    log_of tile grant.label ≡ option_map (λ state. state.log) (alone_part setup.world grant stop tile.number)

-- the stations at the end of a run have these tiles, each at the place of its number, and each holds of a
-- grant what it has alone
record HoldLogs (setup : Setup) (end : RunEnd) (tiles : List TileState) (grant : Grant) (stop : ℕ) : Type 0 where
  in_step : tiles_of end.stations ≡ tiles
  numbered : map (λ tile. tile.number) tiles ≡ range_with_len 0 setup.world.platform.tiles
  alone : All (HoldsLog setup grant stop) tiles

-- so the tiles hold its log
log_held : (setup : Setup) (end : RunEnd) (tiles : List TileState) (grant : Grant) (bundle : Bundle) (stop : ℕ)
    (p : AppPart)
    → HoldLogs setup end tiles grant stop → bundle_at setup.world grant.bundle ≡ Some bundle
    → p.part.tile < setup.world.platform.tiles
    → find (λ q. q.part.tile == p.part.tile) (alone_at setup.world.platform bundle grant.start stop).parts ≡ Some p
    → log_on end.stations grant.label p.part ≡ Some p.state.log
log_held setup end tiles grant bundle stop p logs known exists found =
    let t = tile_at tiles setup.world.platform.tiles p.part.tile logs.numbered exists in
    let at : option_map (λ s. s.tile) (slice_get end.stations p.part.tile) ≡ Some t.tile =
    sym (slice_get-map (λ s. s.tile) end.stations p.part.tile) ∙ ap (λ ts. slice_get ts p.part.tile) logs.in_step
    ∙ t.at in
    let held = all_at (HoldsLog setup grant stop) tiles p.part.tile t.tile logs.alone t.at in
    log_from grant.label (slice_get end.stations p.part.tile) t.tile at ∙ held
    ∙ alone_found setup.world grant bundle stop p t.tile.number known t.number found

tiles_of_parts : (ps : List AppPart) → map (λ part. part.tile) (map (λ p. p.part) ps) ≡ map (λ p. p.part.tile) ps
tiles_of_parts [] = refl
tiles_of_parts (p ∷ ps) = ap (λ (ns : List ℕ). p.part.tile ∷ ns) (tiles_of_parts ps)

holds_for : (setup : Setup) (end : RunEnd) (tiles : List TileState) (grant : Grant) (bundle : Bundle)
    → IsSoundCatalog setup.world → HoldLogs setup end tiles grant (stop_slot setup.budget grant)
    → bundle_at setup.world grant.bundle ≡ Some bundle → HoldsAlone setup end.stations grant
holds_for setup end tiles grant bundle sound logs known =
    let stop = stop_slot setup.budget grant in
    let ps = (alone_at setup.world.platform bundle grant.start stop).parts in
    let same : map (λ p. p.part) ps ≡ bundle.parts = alone_parts setup.world.platform bundle grant.start stop in
    let fine = well_formed setup.world grant.bundle bundle sound known in
    let AreFine : List Part → Type 0 = λ parts. All (IsWellFormedPart setup.world.platform) parts in
    let parts_fine = All-unmap (IsWellFormedPart setup.world.platform) (λ p. p.part) ps
    (subst AreFine (sym same) fine.parts) in
    let tiles_same : map (λ part. part.tile) bundle.parts ≡ map (λ p. p.part.tile) ps =
    ap (map (λ part. part.tile)) (sym same) ∙ tiles_of_parts ps in
    let found = found_among ps (subst (IsDistinct nat_eq) tiles_same fine.apart) in
    let held : All (λ p. log_on end.stations grant.label p.part ≡ Some p.state.log) ps =
    λ k d inside. log_held setup end tiles grant bundle stop (get_or ps k d) logs known
    (parts_fine k d inside).on_tile (found k d inside) in
    let row_lists : All (λ p. rows_on end.stations grant.label p.part ≡ p.state.log.rows) ps =
    λ k d inside. ap (λ log. option_map_or (λ l. l.rows) log []) (held k d inside) in
    let traces : All (λ p. traces_on end.stations grant.label p.part ≡ part_trace p ∷ []) ps =
    λ k d inside. ap (λ log. option_map_or
    (λ l. record { tile = (get_or ps k d).part.tile; end = l.end; cut = l.cut } ∷ []) log [])
    (held k d inside) in
    let rows : flat_map (rows_on end.stations grant.label) bundle.parts ≡ flat_map (λ p. p.state.log.rows) ps =
    ap (flat_map (rows_on end.stations grant.label)) (sym same)
    ∙ same_rows (rows_on end.stations grant.label) (λ p. p.state.log.rows) ps row_lists in
    let few : sum_by (λ part. part.trace) (map (λ p. p.part) ps) ≡ sum_by (λ part. part.trace) bundle.parts =
    ap (sum_by (λ part. part.trace)) same in
    record {
      bundle = bundle;
      is_bundle = known;
      fits = omega (
        arith,
        ap length rows,
        rows_fit ps (alone_fits setup.world.platform bundle grant.start stop),
        few,
        few_enough setup.world grant.bundle bundle known,
      );
      few = omega (arith, few_parts setup.world.platform bundle fine, setup.world.platform.tiles_in_range.1);
      rows = rows;
      parts = ap (flat_map (traces_on end.stations grant.label)) (sym same)
          ∙ same_rows (traces_on end.stations grant.label) (λ p. part_trace p ∷ []) ps traces
          ∙ flat_map_single part_trace ps;
    }

pub holds_alone : (setup : Setup) (end : RunEnd) → IsSound setup → IsLegal setup end.history → EndsInStep setup end
    → All (HoldsAlone setup end.stations) (grants_of setup end.history)
holds_alone setup end sound legal in_step =
    let grants = grants_of setup end.history in
    let apart = legal_apart setup sound end.history legal in
    let of_loads = grants_of_loads setup sound end.history legal in
    λ k d inside.
    let (bundle, known) = some_of (bundle_at setup.world (get_or grants k d).bundle) (apart.known k d inside) in
    holds_for setup end (tiles_at setup.world setup.loads grants setup.budget) (get_or grants k d) bundle
    sound.catalog (record {
      in_step = in_step;
      numbered = tiles_numbered setup.world setup.loads grants setup.budget (sound_world setup sound) apart of_loads;
      alone = λ m e within. logs_are_alone setup.world setup.loads grants setup.budget (sound_world setup sound) apart
          of_loads m e within k d inside;
    }) known
