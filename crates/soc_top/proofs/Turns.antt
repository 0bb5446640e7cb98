-- The readings of a run, script after script and bundle file after bundle file.
use Rattle.std.proofs.Common.{◌≡◌, ℕ, ◌+◌, ◌-◌, ◌<◌, ◌≤◌, ◌⊎◌, inl, inr, List, [], ◌∷◌, ◌++◌, length, length-append, map, drop, get_or, Option, All, refl, sym, ap, ◌∙◌, subst, arith}
use Rattle.std.proofs.lemmas.Grind.{flat_map-append}
use Rattle.std.proofs.lemmas.List.{append-nil, map-append, drop_more}
use Rattle.std.proofs.lemmas.List.Elements.{All-nil, All-cons, All-append}
use Rattle.soc_base.specs.declared.limits.TheConstants.{MOST_COMMANDS}
use Rattle.soc_base.specs.Time.{slot_up_of}
use Rattle.soc_io.specs.Reading.{Held}
use Rattle.platform_model.specs.declared.platform.Platform.{Platform}
use Rattle.bundle_model.specs.declared.world.Named.{Named}
use Rattle.script_file.specs.declared.command.Command.{Command}
use Rattle.script_file.specs.declared.command.Script.{Script}
use Rattle.vep_manager.specs.declared.setup.Setup.{Setup}
use Rattle.command_words.specs.declared.request.RunWords.{RunWords}
use Rattle.command_words.specs.declared.request.CheckWords.{CheckWords}
use Rattle.soc_top.specs.declared.fault.TopFault.{TopFault}
use Rattle.soc_top.specs.declared.fault.TopFault.TheVariants.{NoMemory}
use Rattle.soc_top.specs.Wants.{Gives, Refuses}
use Rattle.soc_top.specs.Wants.Want.{PlatformWant, ScriptWant, JudgedWant}
use Rattle.soc_top.specs.Wants.Input.{PlatformRead, ScriptRead, BundleRead}
use Rattle.soc_top.specs.Order.{Leaves, AreRead, Cause}
use Rattle.soc_top.specs.Order.Order.{Whole}
use Rattle.soc_top.specs.Run.{bundle_names, bundles_order, commands_in, scripts_order, after_platform, run_order, GivesSetup}
use Rattle.soc_top.specs.Check.{checked_names, checked_order, check_order}
use Rattle.soc_top.specs.inner.Checking.{StopsChecking}
use Rattle.soc_top.specs.inner.Naming.{all_commands, InTime, IsAdded, AreScripts, IsJudged, catalog_names}
use Rattle.soc_top.proofs.Orders.{leaves_then, cause_at, cause_after}
use Rattle.soc_top.proofs.Stops.{not_whole}

split_at : (names : List (List ℕ)) (i : ℕ) (name : List ℕ) → i < length names → name ≡ get_or names i name
    → drop i names ≡ name ∷ drop (i + 1) names
split_at names i name inside is = drop_more names i name inside ∙ ap (λ n. n ∷ drop (i + 1) names) (sym is)

-- the first `i` scripts were read, and there is room for so many commands
pub record HasScripts (told : Option Held) (names : List (List ℕ)) (i : ℕ) (scripts : List Script) (room : ℕ)
    : Type 0 where
  pub read : (platform : Platform) → Leaves told (scripts_order platform names []) (map ScriptRead scripts)
      (scripts_order platform (drop i names) (all_commands scripts))
  pub room_left : room + length (all_commands scripts) ≡ MOST_COMMANDS
  pub in_time : All InTime scripts
  pub each : length scripts ≡ i
  pub inside : i ≤ length names

commands_more : (scripts : List Script) (script : Script)
    → all_commands (scripts ++ script ∷ []) ≡ all_commands scripts ++ script.commands
commands_more scripts script =
    flat_map-append (λ (s : Script). s.commands) scripts (script ∷ [])
    ∙ ap (λ more. all_commands scripts ++ more) (append-nil script.commands)

step_script : (told : Option Held) (platform : Platform) (names : List (List ℕ)) (i : ℕ) (name : List ℕ)
    (commands : List Command) (script : Script)
    → drop i names ≡ name ∷ drop (i + 1) names
    → Gives told (ScriptWant name (MOST_COMMANDS - length commands)) (ScriptRead script)
    → Leaves told (scripts_order platform (drop i names) commands) (ScriptRead script ∷ [])
    (scripts_order platform (drop (i + 1) names) (commands ++ script.commands))
step_script told platform names i name commands script split gives =
    subst (λ rest. Leaves told (scripts_order platform rest commands) (ScriptRead script ∷ [])
    (scripts_order platform (drop (i + 1) names) (commands ++ script.commands))) (sym split) (gives, refl)

room_of : (room used : ℕ) → room + used ≡ MOST_COMMANDS → room ≡ MOST_COMMANDS - used
room_of room used is = omega (arith, is)

read_more : (told : Option Held) (names : List (List ℕ)) (i : ℕ) (name : List ℕ) (room : ℕ) (scripts : List Script)
    (script : Script)
    → HasScripts told names i scripts room → drop i names ≡ name ∷ drop (i + 1) names
    → Gives told (ScriptWant name room) (ScriptRead script) → (platform : Platform)
    → Leaves told (scripts_order platform names []) (map ScriptRead (scripts ++ script ∷ []))
    (scripts_order platform (drop (i + 1) names) (all_commands (scripts ++ script ∷ [])))
read_more told names i name room scripts script so_far split gives platform =
    let commands = all_commands scripts in
    let here : Gives told (ScriptWant name (MOST_COMMANDS - length commands)) (ScriptRead script) =
    subst (λ r. Gives told (ScriptWant name r) (ScriptRead script)) (room_of room (length commands) so_far.room_left)
    gives in
    let step = step_script told platform names i name commands script split here in
    let both = leaves_then told (scripts_order platform names []) (scripts_order platform (drop i names) commands)
    (scripts_order platform (drop (i + 1) names) (commands ++ script.commands)) (map ScriptRead scripts)
    (ScriptRead script ∷ []) (so_far.read platform) step in
    rw (map-append ScriptRead scripts (script ∷ []), commands_more scripts script) both

-- The name at place `i` is the next one.
module _ (told : Option Held) (names : List (List ℕ)) (i : ℕ) (name : List ℕ) (inside : i < length names)
    (is : name ≡ get_or names i name) where
  -- its script was read and judged
  pub one_more_script : (room left : ℕ) (scripts new : List Script) → HasScripts told names i scripts room
      → IsAdded told name room scripts new left → HasScripts told names (i + 1) new left
  one_more_script room left scripts new so_far added =
      let script = added.script in
      let more = commands_more scripts script in
      let P : List Script → Type 0 = λ s. HasScripts told names (i + 1) s left in
      subst P (sym added.appended) (record {
        read = read_more told names i name room scripts script so_far (split_at names i name inside is) added.gives;
        room_left =
            let sum : length (all_commands (scripts ++ script ∷ []))
            ≡ length (all_commands scripts) + length script.commands =
            ap length more ∙ length-append (all_commands scripts) script.commands in
            omega (arith, sum, so_far.room_left, added.counted);
        in_time = All-append InTime scripts (script ∷ []) so_far.in_time
            (All-cons InTime script [] added.in_time (All-nil InTime));
        each = omega (arith, length-append scripts (script ∷ []), so_far.each);
        inside = omega (arith, inside);
      })

  -- its script is why the request is refused
  pub scripts_stop : (before mid now room : ℕ) (scripts : List Script) (fault : TopFault)
      → HasScripts told names i scripts room → before ≤ mid → Refuses told mid now (ScriptWant name room) fault
      → (platform : Platform) → Cause told before now (scripts_order platform names []) fault
  scripts_stop before mid now room scripts fault so_far later refuses platform =
      let commands = all_commands scripts in
      let here : Refuses told mid now (ScriptWant name (MOST_COMMANDS - length commands)) fault =
      subst (λ r. Refuses told mid now (ScriptWant name r) fault) (room_of room (length commands) so_far.room_left)
      refuses in
      cause_at told before mid now (scripts_order platform names []) (map ScriptRead scripts)
      (ScriptWant name (MOST_COMMANDS - length commands))
      (λ script. scripts_order platform (drop (i + 1) names) (commands ++ commands_in script)) fault later
      (subst (λ rest. Leaves told (scripts_order platform names []) (map ScriptRead scripts)
      (scripts_order platform rest commands)) (split_at names i name inside is) (so_far.read platform)) here

-- likewise the bundle files
step_bundle : (told : Option Held) (platform : Platform) (names : List (List ℕ)) (i : ℕ) (name : List ℕ) (named : Named)
    → drop i names ≡ name ∷ drop (i + 1) names → Gives told (JudgedWant platform name) (BundleRead named)
    → Leaves told (bundles_order platform (drop i names)) (BundleRead named ∷ [])
    (bundles_order platform (drop (i + 1) names))
step_bundle told platform names i name named split gives =
    subst (λ rest. Leaves told (bundles_order platform rest) (BundleRead named ∷ [])
    (bundles_order platform (drop (i + 1) names))) (sym split) (gives, refl)

-- the first `i` bundle files were read
abbrev pub HasBundles : Option Held → Platform → List (List ℕ) → ℕ → List Named → Type 0
HasBundles told platform names i catalog =
    Leaves told (bundles_order platform names) (map BundleRead catalog) (bundles_order platform (drop i names))

pub one_more_bundle : (told : Option Held) (platform : Platform) (names : List (List ℕ)) (i : ℕ) (name : List ℕ)
    (catalog new : List Named)
    → HasBundles told platform names i catalog → i < length names → name ≡ get_or names i name
    → IsJudged told platform name catalog new → HasBundles told platform names (i + 1) new
one_more_bundle told platform names i name catalog new so_far inside is judged =
    let step = step_bundle told platform names i name judged.named (split_at names i name inside is) judged.gives in
    let both = leaves_then told (bundles_order platform names) (bundles_order platform (drop i names))
    (bundles_order platform (drop (i + 1) names)) (map BundleRead catalog) (BundleRead judged.named ∷ []) so_far
    step in
    rw (judged.appended, map-append BundleRead catalog (judged.named ∷ [])) both

-- the catalog has the files' names
pub names_read : (told : Option Held) (platform : Platform) (names : List (List ℕ)) (catalog : List Named)
    → AreRead told (bundles_order platform names) (map BundleRead catalog) → catalog_names catalog ≡ names
names_read told platform [] [] read = refl
names_read told platform [] (named ∷ catalog) read = absurd read
names_read told platform (name ∷ names) [] read = absurd (not_whole _ _ read)
names_read told platform (name ∷ names) (named ∷ catalog) ((bytes, has, (same, judges)), more) =
    ap (λ n. n ∷ catalog_names catalog) same ∙ ap (λ rest. name ∷ rest) (names_read told platform names catalog more)

-- a setup by what was read for it
pub setup_read : (told : Option Held) (request : RunWords) (platform : Platform) (scripts : List Script)
    (catalog : List Named) (setup : Setup)
    → Gives told (PlatformWant request.platform) (PlatformRead platform) → AreScripts told request.scripts scripts
    → AreRead told (bundles_order platform (bundle_names (all_commands scripts))) (map BundleRead catalog)
    → setup.world.platform ≡ platform → setup.scripts ≡ scripts → setup.world.catalog ≡ catalog
    → setup.budget ≡ slot_up_of request.budget platform.slot_cycles → GivesSetup told request setup
setup_read told request platform scripts catalog setup gives read judged is are of budget =
    let rest = leaves_then told (scripts_order platform request.scripts [])
    (bundles_order platform (bundle_names (all_commands scripts))) Whole (map ScriptRead scripts)
    (map BundleRead catalog) (read.read platform) judged in
    let all : AreRead told (run_order request)
    (PlatformRead platform ∷ (map ScriptRead scripts ++ map BundleRead catalog)) = (gives, rest) in
    (rw (is, are, of) all, budget ∙ ap (λ (p : Platform). slot_up_of request.budget p.slot_cycles) (sym is))

-- want of memory needs no cause
pub run_memory : (told : Option Held) (before now : ℕ) (request : RunWords)
    → Cause told before now (run_order request) NoMemory
run_memory told before now request =
    (PlatformWant request.platform, ([], (after_platform request, refl)), tt)

-- a script refuses the request, or a bundle file does, after the files before it
pub script_stops : (told : Option Held) (before mid now : ℕ) (request : RunWords) (platform : Platform)
    (fault : TopFault)
    → before ≤ mid → Gives told (PlatformWant request.platform) (PlatformRead platform)
    → ((on : Platform) → Cause told mid now (scripts_order on request.scripts []) fault)
    → Cause told before now (run_order request) fault
script_stops told before mid now request platform fault later gives cause =
    cause_after told before mid now (run_order request) (scripts_order platform request.scripts [])
    (PlatformRead platform ∷ []) fault later (gives, refl) (cause platform)

-- the readings of a check
pub check_memory : (told : Option Held) (before now : ℕ) (request : CheckWords)
    → Cause told before now (check_order request) NoMemory
check_memory told before now request = (PlatformWant request.platform, ([], (checked_order request, refl)), tt)

pub check_stops : (told : Option Held) (before mid now : ℕ) (request : CheckWords) (platform : Platform)
    (fault : TopFault)
    → before ≤ mid → Gives told (PlatformWant request.platform) (PlatformRead platform)
    → StopsChecking told mid now platform request fault → Cause told before now (check_order request) fault
check_stops told before mid now request platform fault later gives (inl memory) =
    subst (Cause told before now (check_order request)) (sym memory) (check_memory told before now request)
check_stops told before mid now request platform fault later gives (inr cause) =
    cause_after told before mid now (check_order request) (bundles_order platform (checked_names request))
    (PlatformRead platform ∷ []) fault later (gives, refl) cause

pub bundle_stops : (told : Option Held) (before mid now : ℕ) (request : RunWords) (platform : Platform)
    (scripts : List Script) (fault : TopFault)
    → before ≤ mid → Gives told (PlatformWant request.platform) (PlatformRead platform)
    → AreScripts told request.scripts scripts
    → (fault ≡ NoMemory) ⊎ Cause told mid now (bundles_order platform (bundle_names (all_commands scripts))) fault
    → Cause told before now (run_order request) fault
bundle_stops told before mid now request platform scripts fault later gives read (inl memory) =
    subst (Cause told before now (run_order request)) (sym memory) (run_memory told before now request)
bundle_stops told before mid now request platform scripts fault later gives read (inr cause) =
    cause_after told before mid now (run_order request)
    (bundles_order platform (bundle_names (all_commands scripts))) (PlatformRead platform ∷ map ScriptRead scripts)
    fault later (gives, read.read platform) cause
