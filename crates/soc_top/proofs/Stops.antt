-- What the bytes of files give excludes what they break, and comes to one first event.
use Rattle.std.proofs.Common.{◌≡◌, ℕ, ◌<◌, ◌⊎◌, inl, inr, List, [], ◌∷◌, length, Option, Some, None, Result, Ok, Err, refl, sym, ap, ◌∙◌, subst, arith}
use Rattle.soc_base.specs.declared.limits.TheConstants.{MOST_FILE_BYTES}
use Rattle.soc_io.specs.Counts.{Rose}
use Rattle.soc_io.specs.Reading.{Held, held_at}
use Rattle.platform_model.specs.declared.platform.Platform.{Platform}
use Rattle.platform_model.specs.declared.rules.PRule.{PRule}
use Rattle.platform_file.specs.Reading as platforms
use Rattle.platform_file.proofs.Laws as platform_laws
use Rattle.bundle_model.specs.declared.bundle.Bundle.{Bundle}
use Rattle.bundle_model.specs.declared.rules.BRule.{BRule}
use Rattle.bundle_model.specs.declared.world.Named.{Named}
use Rattle.bundle_file.specs.Reading as bundles
use Rattle.bundle_file.proofs.Laws as bundle_laws
use Rattle.script_file.specs.declared.command.Command.{Command}
use Rattle.script_file.specs.declared.command.Script.{Script as Commands}
use Rattle.script_file.specs.declared.rules.ScriptFault.{ScriptFault}
use Rattle.script_file.specs.Commands.{script_meant}
use Rattle.soc_top.specs.declared.fault.TopFault.{TopFault}
use Rattle.soc_top.specs.declared.fault.TopFault.TheVariants.{Platform as BadPlatform, ScriptTooLong, Script, Bundle as BadBundle, Absent, Read, NoMemory}
use Rattle.soc_top.specs.Faults.{fault_status}
use Rattle.soc_top.specs.Wants.{Want, Input, name_of, Judges, Means, Breaks, Gives, Refuses}
use Rattle.soc_top.specs.Wants.Want.{PlatformWant, ScriptWant, BundleWant, JudgedWant}
use Rattle.soc_top.specs.Wants.Input.{PlatformRead, ScriptRead, BundleRead}
use Rattle.soc_top.specs.Order.{Order, Leaves, AreRead, Reaches, Cause, IsDecided}
use Rattle.soc_top.specs.Order.Order.{Next, Whole}

-- bytes give one input
same_script : (meant : Result (List Command) ScriptFault) (s t : Commands) → meant ≡ Ok s.commands
    → meant ≡ Ok t.commands → s.commands ≡ t.commands
same_script meant s t is also = cc

as_script : (s t : Commands) → s.commands ≡ t.commands → ScriptRead s ≡ ScriptRead t
as_script s t same = ap (λ commands. ScriptRead (record { commands = commands })) same

as_named : (one other : Named) → one.name ≡ other.name → one.judged ≡ other.judged → BundleRead one ≡ BundleRead other
as_named one other name judged =
    ap (λ n. BundleRead (record { name = n; judged = one.judged })) name
    ∙ ap (λ j. BundleRead (record { name = other.name; judged = j })) judged

judged_once : (on : Platform) (bytes : List ℕ) (one other : Result Bundle BRule) → Judges on bytes one
    → Judges on bytes other → one ≡ other
judged_once on bytes (Ok b) (Ok c) gives given = ap Ok (bundle_laws.gives_one on bytes b c gives given)
judged_once on bytes (Ok b) (Err r) gives breaks = absurd (bundle_laws.gives_breaks_none on bytes b r gives breaks)
judged_once on bytes (Err r) (Ok c) breaks gives = absurd (bundle_laws.gives_breaks_none on bytes c r gives breaks)
judged_once on bytes (Err r) (Err s) breaks broken = ap Err (bundle_laws.breaks_one on bytes r s breaks broken)

kept_once : (on : Platform) (bytes : List ℕ) (one other : Result Bundle BRule) (b c : Bundle) → one ≡ Ok b
    → other ≡ Ok c → bundles.Gives on bytes b → bundles.Gives on bytes c → one ≡ other
kept_once on bytes one other b c is also gives given =
    let same : b ≡ c = bundle_laws.gives_one on bytes b c gives given in
    is ∙ ap Ok same ∙ sym also

means_once : (want : Want) (bytes : List ℕ) (one other : Input) → Means want bytes one → Means want bytes other
    → one ≡ other
means_once (PlatformWant name) bytes (PlatformRead platform) (PlatformRead q) means meant =
    ap PlatformRead (platform_laws.gives_one bytes platform q means meant)
means_once (PlatformWant name) bytes (PlatformRead platform) (ScriptRead t) means meant = absurd meant
means_once (PlatformWant name) bytes (PlatformRead platform) (BundleRead m) means meant = absurd meant
means_once (PlatformWant name) bytes (ScriptRead script) other means meant = absurd means
means_once (PlatformWant name) bytes (BundleRead named) other means meant = absurd means
means_once (ScriptWant name room) bytes (PlatformRead platform) other means meant = absurd means
means_once (ScriptWant name room) bytes (ScriptRead script) (PlatformRead q) means meant = absurd meant
means_once (ScriptWant name room) bytes (ScriptRead script) (ScriptRead t) means meant =
    as_script script t (same_script (script_meant bytes room) script t means.1 meant.1)
means_once (ScriptWant name room) bytes (ScriptRead script) (BundleRead m) means meant = absurd meant
means_once (ScriptWant name room) bytes (BundleRead named) other means meant = absurd means
means_once (BundleWant on name) bytes (PlatformRead platform) other means meant = absurd means
means_once (BundleWant on name) bytes (ScriptRead script) other means meant = absurd means
means_once (BundleWant on name) bytes (BundleRead named) (PlatformRead q) means meant = absurd meant
means_once (BundleWant on name) bytes (BundleRead named) (ScriptRead t) means meant = absurd meant
means_once (BundleWant on name) bytes (BundleRead named) (BundleRead m) means meant =
    as_named named m (means.0 ∙ sym meant.0)
    (kept_once on bytes named.judged m.judged means.1.0 meant.1.0 means.1.1 meant.1.1 means.1.2 meant.1.2)
means_once (JudgedWant on name) bytes (PlatformRead platform) other means meant = absurd means
means_once (JudgedWant on name) bytes (ScriptRead script) other means meant = absurd means
means_once (JudgedWant on name) bytes (BundleRead named) (PlatformRead q) means meant = absurd meant
means_once (JudgedWant on name) bytes (BundleRead named) (ScriptRead t) means meant = absurd meant
means_once (JudgedWant on name) bytes (BundleRead named) (BundleRead m) means meant =
    as_named named m (means.0 ∙ sym meant.0) (judged_once on bytes named.judged m.judged means.1 meant.1)

same_bytes : (file : Option (List ℕ)) (one other : List ℕ) → file ≡ Some one → file ≡ Some other → one ≡ other
same_bytes file one other is also = cc

gives_once : (held : Held) (want : Want) (one other : Input) → Gives (Some held) want one → Gives (Some held) want other
    → one ≡ other
gives_once held want one other (bytes, is, means) (others, also, meant) =
    let same : bytes ≡ others = same_bytes _ bytes others is also in
    means_once want others one other (subst (λ b. Means want b one) same means) meant

-- bytes that are refused give nothing
no_platform : (bytes : List ℕ) (rule : PRule) → platforms.Breaks bytes rule → (p : Platform) → platforms.Gives bytes p
    → ⊥
no_platform bytes rule breaks p gives = platform_laws.gives_breaks_none bytes p rule gives breaks

broken_platform : (name bytes : List ℕ) (rule : PRule) → platforms.Breaks bytes rule → (input : Input)
    → Means (PlatformWant name) bytes input → ⊥
broken_platform name bytes rule breaks (PlatformRead p) means = no_platform bytes rule breaks p means
broken_platform name bytes rule breaks (ScriptRead s) means = means
broken_platform name bytes rule breaks (BundleRead m) means = means

one_meaning : (meant : Result (List Command) ScriptFault) (commands : List Command) (fault : ScriptFault)
    → meant ≡ Err fault → meant ≡ Ok commands → ⊥
one_meaning meant commands fault err ok = cc

broken_script : (name bytes : List ℕ) (room : ℕ) (fault : ScriptFault) → script_meant bytes room ≡ Err fault
    → (input : Input) → Means (ScriptWant name room) bytes input → ⊥
broken_script name bytes room fault is (PlatformRead p) means = means
broken_script name bytes room fault is (ScriptRead s) means =
    one_meaning (script_meant bytes room) s.commands fault is means.1
broken_script name bytes room fault is (BundleRead m) means = means

long_script : (name bytes : List ℕ) (room : ℕ) → MOST_FILE_BYTES < length bytes → (input : Input)
    → Means (ScriptWant name room) bytes input → ⊥
long_script name bytes room long (PlatformRead p) means = means
long_script name bytes room long (ScriptRead s) means = omega (arith, long, means.0)
long_script name bytes room long (BundleRead m) means = means

broken_bundle : (on : Platform) (name bytes : List ℕ) (rule : BRule) → bundles.Breaks on bytes rule → (input : Input)
    → Means (BundleWant on name) bytes input → ⊥
broken_bundle on name bytes rule breaks (PlatformRead p) means = means
broken_bundle on name bytes rule breaks (ScriptRead s) means = means
broken_bundle on name bytes rule breaks (BundleRead m) (_, (bundle, _, gives)) =
    bundle_laws.gives_breaks_none on bytes bundle rule gives breaks

-- the status of a refusal by what a file holds
abbrev kind_status : Want → ℕ
kind_status (PlatformWant name) = 2
kind_status (ScriptWant name room) = 3
kind_status (BundleWant on name) = 3
kind_status (JudgedWant on name) = 3

broken : (want : Want) (bytes : List ℕ) (fault : TopFault) → Breaks want bytes fault
    → (fault_status fault ≡ kind_status want) × ((input : Input) → Means want bytes input → ⊥)
broken (PlatformWant name) bytes (BadPlatform rule) breaks = (refl, broken_platform name bytes rule breaks)
broken (PlatformWant name) bytes (ScriptTooLong other) breaks = absurd breaks
broken (PlatformWant name) bytes (Script other found) breaks = absurd breaks
broken (PlatformWant name) bytes (BadBundle other rule) breaks = absurd breaks
broken (PlatformWant name) bytes (Absent other) breaks = absurd breaks
broken (PlatformWant name) bytes (Read other) breaks = absurd breaks
broken (PlatformWant name) bytes NoMemory breaks = absurd breaks
broken (ScriptWant name room) bytes (BadPlatform rule) breaks = absurd breaks
broken (ScriptWant name room) bytes (ScriptTooLong other) breaks = absurd breaks
broken (ScriptWant name room) bytes (Script other found) breaks = (refl, broken_script name bytes room found breaks.2)
broken (ScriptWant name room) bytes (BadBundle other rule) breaks = absurd breaks
broken (ScriptWant name room) bytes (Absent other) breaks = absurd breaks
broken (ScriptWant name room) bytes (Read other) breaks = absurd breaks
broken (ScriptWant name room) bytes NoMemory breaks = absurd breaks
broken (BundleWant on name) bytes (BadPlatform rule) breaks = absurd breaks
broken (BundleWant on name) bytes (ScriptTooLong other) breaks = absurd breaks
broken (BundleWant on name) bytes (Script other found) breaks = absurd breaks
broken (BundleWant on name) bytes (BadBundle other rule) breaks = (refl, broken_bundle on name bytes rule breaks.1)
broken (BundleWant on name) bytes (Absent other) breaks = absurd breaks
broken (BundleWant on name) bytes (Read other) breaks = absurd breaks
broken (BundleWant on name) bytes NoMemory breaks = absurd breaks
broken (JudgedWant on name) bytes (BadPlatform rule) breaks = absurd breaks
broken (JudgedWant on name) bytes (ScriptTooLong other) breaks = absurd breaks
broken (JudgedWant on name) bytes (Script other found) breaks = absurd breaks
broken (JudgedWant on name) bytes (BadBundle other rule) breaks = absurd breaks
broken (JudgedWant on name) bytes (Absent other) breaks = absurd breaks
broken (JudgedWant on name) bytes (Read other) breaks = absurd breaks
broken (JudgedWant on name) bytes NoMemory breaks = absurd breaks

-- the status of a refusal by what the files hold
abbrev status_at : Option (List ℕ) → Want → ℕ
status_at None want = 4
status_at (Some bytes) want = kind_status want

-- a file refuses the request by what it holds, so that it gives nothing
record IsStuck (held : Held) (want : Want) (fault : TopFault) : Type 0 where
  status : fault_status fault ≡ status_at (held_at held (name_of want)) want
  none : (input : Input) → Gives (Some held) want input → ⊥

stuck_by : (held : Held) (want : Want) (fault : TopFault) (bytes : List ℕ)
    → held_at held (name_of want) ≡ Some bytes → fault_status fault ≡ kind_status want
    → ((input : Input) → Means want bytes input → ⊥) → IsStuck held want fault
stuck_by held want fault bytes is status never = record {
  status = status ∙ ap (λ file. status_at file want) (sym is);
  none = λ input (others, also, means).
      never input (subst (λ b. Means want b input) (same_bytes _ others bytes also is) means);
}

stuck_broken : (held : Held) (want : Want) (fault : TopFault) (bytes : List ℕ)
    → held_at held (name_of want) ≡ Some bytes → Breaks want bytes fault → IsStuck held want fault
stuck_broken held want fault bytes is breaks =
    let (status, never) = broken want bytes fault breaks in
    stuck_by held want fault bytes is status never

none_or_some : (file : Option (List ℕ)) (bytes : List ℕ) → file ≡ None → file ≡ Some bytes → ⊥
none_or_some file bytes none some = cc

stuck_absent : (held : Held) (want : Want) (name : List ℕ) → name ≡ name_of want → held_at held name ≡ None
    → IsStuck held want (Absent name)
stuck_absent held want name same none =
    let here : held_at held (name_of want) ≡ None = ap (held_at held) (sym same) ∙ none in
    record {
      status = ap (λ file. status_at file want) (sym here);
      none = λ input (bytes, is, means). none_or_some _ bytes here is;
    }

stuck_long : (held : Held) (want : Want) (name : List ℕ) → Refuses (Some held) 0 0 want (ScriptTooLong name)
    → IsStuck held want (ScriptTooLong name)
stuck_long held (PlatformWant other) name refuses = absurd refuses.0
stuck_long held (ScriptWant other room) name (same, (bytes, is, long)) =
    let there : held_at held other ≡ Some bytes = ap (held_at held) (sym same) ∙ is in
    stuck_by held (ScriptWant other room) (ScriptTooLong name) bytes there refl (long_script other bytes room long)
stuck_long held (BundleWant on other) name refuses = absurd refuses.0
stuck_long held (JudgedWant on other) name refuses = absurd refuses.0

-- what the files decide: a file that is reached is stuck
record IsStop (held : Held) (order : Order) (fault : TopFault) : Type 0 where
  want : Want
  inputs : List Input
  after : Input → Order
  leaves : Leaves (Some held) order inputs (Next want after)
  stuck : IsStuck held want fault

stop_at : (held : Held) (order : Order) (fault : TopFault) (want : Want) → Reaches (Some held) order want
    → IsStuck held want fault → IsStop held order fault
stop_at held order fault want (inputs, (after, leaves)) stuck =
    record { want = want; inputs = inputs; after = after; leaves = leaves; stuck = stuck }

stop_of : (held : Held) (order : Order) (fault : TopFault) → IsDecided held order fault → IsStop held order fault
stop_of held order (BadPlatform rule) (want, reaches, (bytes, is, breaks)) =
    stop_at held order (BadPlatform rule) want reaches (stuck_broken held want (BadPlatform rule) bytes is breaks)
stop_of held order (ScriptTooLong other) (want, reaches, refuses) =
    stop_at held order (ScriptTooLong other) want reaches (stuck_long held want other refuses)
stop_of held order (Script other found) (want, reaches, (bytes, is, breaks)) =
    stop_at held order (Script other found) want reaches (stuck_broken held want (Script other found) bytes is breaks)
stop_of held order (BadBundle other rule) (want, reaches, (bytes, is, breaks)) =
    stop_at held order (BadBundle other rule) want reaches
    (stuck_broken held want (BadBundle other rule) bytes is breaks)
stop_of held order (Absent other) (want, reaches, (same, none)) =
    stop_at held order (Absent other) want reaches (stuck_absent held want other same none)
stop_of held order (Read other) decided = absurd decided
stop_of held order NoMemory decided = absurd decided

-- nothing is read after this
abbrev IsEnd : Held → Order → Type 0
IsEnd held (Next want after) = (input : Input) → Gives (Some held) want input → ⊥
IsEnd held Whole = Unit {0}

goes_on : (held : Held) (want : Want) (after : Input → Order) (end : Order) (input : Input)
    → Next want after ≡ end → Gives (Some held) want input → IsEnd held end → ⊥
goes_on held want after end input is gives ends =
    let here : IsEnd held (Next want after) = subst (IsEnd held) (sym is) ends in
    here input gives

-- files come to one end
one_end : (held : Held) (order one other : Order) (xs ys : List Input) → Leaves (Some held) order xs one
    → Leaves (Some held) order ys other → IsEnd held one → IsEnd held other → one ≡ other
one_end held order one other [] [] is also ends stops = sym is ∙ also
one_end held (Next want after) one other [] (y ∷ ys) is (gives, more) ends stops =
    absurd (goes_on held want after one y is gives ends)
one_end held Whole one other [] (y ∷ ys) is more ends stops = absurd more
one_end held (Next want after) one other (x ∷ xs) [] (gives, more) also ends stops =
    absurd (goes_on held want after other x also gives stops)
one_end held Whole one other (x ∷ xs) [] more also ends stops = absurd more
one_end held (Next want after) one other (x ∷ xs) (y ∷ ys) (gives, more) (given, rest) ends stops =
    let same : x ≡ y = gives_once held want x y gives given in
    one_end held (after x) one other xs ys more
    (subst (λ input. Leaves (Some held) (after input) ys other) (sym same) rest) ends stops
one_end held Whole one other (x ∷ xs) (y ∷ ys) more rest ends stops = absurd more

pub not_whole : (want : Want) (after : Input → Order) → Next want after ≡ Whole → ⊥
not_whole want after is = cc

same_want : (want other : Want) (after rest : Input → Order) → Next want after ≡ Next other rest → want ≡ other
same_want want other after rest is = cc

-- where files decide a refusal, not all of them are read
pub undecided : (held : Held) (order : Order) (inputs : List Input) (fault : TopFault)
    → AreRead (Some held) order inputs → IsDecided held order fault → ⊥
undecided held order inputs fault read decided =
    let stop = stop_of held order fault decided in
    not_whole stop.want stop.after
    (one_end held order (Next stop.want stop.after) Whole stop.inputs inputs stop.leaves read stop.stuck.none tt)

-- files decide one status
pub one_status : (held : Held) (order : Order) (fault other : TopFault) → IsDecided held order fault
    → IsDecided held order other → fault_status fault ≡ fault_status other
one_status held order fault other here there =
    let one = stop_of held order fault here in
    let two = stop_of held order other there in
    let same : one.want ≡ two.want =
    same_want one.want two.want one.after two.after
    (one_end held order (Next one.want one.after) (Next two.want two.after) one.inputs two.inputs one.leaves
    two.leaves one.stuck.none two.stuck.none) in
    one.stuck.status ∙ ap (λ want. status_at (held_at held (name_of want)) want) same ∙ sym two.stuck.status

-- a refusal without a fault of reading or want of memory is decided by the files
pub as_decided : (held : Held) (before now : ℕ) (order : Order) (fault : TopFault) → (Rose before now → ⊥)
    → Cause (Some held) before now order fault → IsDecided held order fault ⊎ (fault ≡ NoMemory)
as_decided held before now order (BadPlatform rule) calm cause = inl cause
as_decided held before now order (ScriptTooLong other) calm cause = inl cause
as_decided held before now order (Script other found) calm cause = inl cause
as_decided held before now order (BadBundle other rule) calm cause = inl cause
as_decided held before now order (Absent other) calm cause = inl cause
as_decided held before now order (Read other) calm (want, reaches, (same, rose)) = absurd (calm rose)
as_decided held before now order NoMemory calm cause = inr refl
