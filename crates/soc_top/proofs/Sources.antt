-- The bytes of scripts that were kept.
use Rattle.std.proofs.Common.{◌≡◌, ℕ, ◌≤◌, Bool, true, false, cond, List, [], ◌∷◌, ◌++◌, length, find, Option, Some, Result, Ok, Err, IfOk, IfErr, refl, sym, subst}
use Rattle.std.specs.Str.{bytes_eq}
use Rattle.std.proofs.lemmas.Result.{IfOk-weaker}
use Rattle.std.proofs.lemmas.Slice.Eq.{bytes_eq-Decides}
use Rattle.std.proofs.lemmas.List.Elements.{All-nil, All-cons, All-append, All-head, All-tail}
use Rattle.soc_base.specs.declared.limits.TheConstants.{MOST_FILE_BYTES}
use Rattle.soc_io.specs.Reading.{Held}
use Rattle.script_file.specs.declared.command.Script.{Script}
use Rattle.soc_top.specs.declared.fault.TopFault.{TopFault}
use Rattle.soc_top.specs.declared.fault.TopFault.TheVariants.{Platform as BadPlatform, ScriptTooLong, Script as BadScript, Bundle as BadBundle, Absent, Read, NoMemory}
use Rattle.soc_top.specs.declared.script.Source.{Source}
use Rattle.soc_top.specs.Wants.{HasBytes, Means, Gives, Refuses}
use Rattle.soc_top.specs.Wants.Want.{ScriptWant}
use Rattle.soc_top.specs.Wants.Input.{ScriptRead}
use Rattle.soc_top.specs.inner.Loading.{FaultsScript, IsKept, AreKept}

pub faulty_script : (told : Option Held) (before now : ℕ) (name bytes : List ℕ) (room : ℕ) (fault : TopFault)
    → HasBytes told name bytes → FaultsScript name room bytes fault
    → Refuses told before now (ScriptWant name room) fault
faulty_script told before now name bytes room (BadPlatform rule) has faults = absurd faults
faulty_script told before now name bytes room (ScriptTooLong other) has faults = absurd faults
faulty_script told before now name bytes room (BadScript other found) has faults = (bytes, has, faults)
faulty_script told before now name bytes room (BadBundle other rule) has faults = absurd faults
faulty_script told before now name bytes room (Absent other) has faults = absurd faults
faulty_script told before now name bytes room (Read other) has faults = absurd faults
faulty_script told before now name bytes room NoMemory has faults = tt

-- the bytes are those of the file of a name
abbrev pub AreOf : Option Held → List ℕ → List ℕ → Type 0
AreOf told name bytes = HasBytes told name bytes × (length bytes ≤ MOST_FILE_BYTES)

found_at : (b : Bool) (told : Option Held) (first : Source) (rest : Option Source) (name : List ℕ) (source : Source)
    → bytes_eq first.name name ≡ b → IsKept told first → (rest ≡ Some source → AreOf told name source.bytes)
    → cond b (Some first) rest ≡ Some source → AreOf told name source.bytes
found_at true told first rest name source test kept later is =
    let here : first ≡ source = cc in
    let same : first.name ≡ name = (bytes_eq-Decides first.name name).0 test in
    subst (λ (s : Source). AreOf told name s.bytes) here (subst (λ n. AreOf told n first.bytes) same kept)
found_at false told first rest name source test kept later is = later is

pub found_kept : (told : Option Held) (sources : List Source) (name : List ℕ) (source : Source)
    → AreKept told sources → find (λ (source : Source). bytes_eq source.name name) sources ≡ Some source
    → AreOf told name source.bytes
found_kept told [] name source kept is = cc
found_kept told (first ∷ sources) name source kept is =
    found_at (bytes_eq first.name name) told first (find (λ (source : Source). bytes_eq source.name name) sources) name
    source refl (All-head (IsKept told) first sources kept)
    (found_kept told sources name source (All-tail (IsKept told) first sources kept)) is

pub one_more_kept : (told : Option Held) (old new : List Source) (source : Source) → AreKept told old
    → new ≡ old ++ source ∷ [] → IsKept told source → AreKept told new
one_more_kept told old new source kept is here =
    subst (AreKept told) (sym is)
    (All-append (IsKept told) old (source ∷ []) kept
    (All-cons (IsKept told) source [] here (All-nil (IsKept told))))

-- a script that was judged, by the bytes of its file
pub script_given : (told : Option Held) (name bytes : List ℕ) (room : ℕ) (result : Result Script TopFault)
    → HasBytes told name bytes → IfOk result (λ script. Means (ScriptWant name room) bytes (ScriptRead script))
    → IfOk result (λ script. Gives told (ScriptWant name room) (ScriptRead script))
script_given told name bytes room result has means =
    IfOk-weaker result (λ script. Means (ScriptWant name room) bytes (ScriptRead script))
    (λ script. Gives told (ScriptWant name room) (ScriptRead script)) (λ script here. (bytes, has, here)) means

pub script_refused : (told : Option Held) (before now : ℕ) (name bytes : List ℕ) (room : ℕ)
    (result : Result Script TopFault)
    → HasBytes told name bytes → IfErr result (FaultsScript name room bytes)
    → IfErr result (Refuses told before now (ScriptWant name room))
script_refused told before now name bytes room (Ok script) has faults = tt
script_refused told before now name bytes room (Err fault) has faults =
    faulty_script told before now name bytes room fault has faults
