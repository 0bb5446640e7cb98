-- The loads of a session, and the sessions of a workload, one after the other.
use Rattle.std.proofs.Common.{◌≡◌, ℕ, ◌+◌, ◌-◌, ◌*◌, ◌<◌, List, [], ◌∷◌, ◌++◌, map, Option, Some, refl, ap, ◌∙◌, arith}
use Rattle.std.specs.List.{range_with_len, flat_map}
use Rattle.std.proofs.Math.Path.{fun_ext}
use Rattle.toml.specs.Data.{Members}
use Rattle.workload.specs.declared.drawn.Drawn.{Drawn}
use Rattle.workload.specs.declared.texts.NamedText.{NamedText}
use Rattle.workload.specs.Draws.{state_after, drawn}
use Rattle.workload.specs.Documents.{bundle_document}
use Rattle.workload.specs.Texts.{bundle_name, load_lines, script_name, script_text, bundles_of, scripts_of}
use Rattle.workload.specs.inner.Loads.{bundles_from, lines_from, bundles_until, scripts_until}
use Rattle.workload.proofs.DrawLemmas.{drawn_session}
use Rattle.workload.proofs.Ranges.{listed_more, joined_more}

-- no load
pub bundles_none : (state session : ℕ) → bundles_from state session 0 ≡ []
unfolding bundles_from
bundles_none state session = refl

pub lines_none : (state session : ℕ) → lines_from state session 0 ≡ []
unfolding lines_from
lines_none state session = refl

-- one load more
pub bundles_more : (state session load : ℕ) (d : Drawn) (front files : List (List ℕ × Option Members)) → 0 < load → files ≡ front ++ bundles_from state session (load - 1) → d ≡ drawn state 1 load
    → files ++ (bundle_name session load, Some (bundle_document session d)) ∷ [] ≡ front ++ bundles_from state session (load + 1 - 1)
unfolding bundles_from
bundles_more state session load d front files some before same =
    let f : ℕ → List ℕ × Option Members = λ k. (bundle_name session k, Some (bundle_document session (drawn state 1 k))) in
    let file : (bundle_name session load, Some (bundle_document session d)) ≡ f load = ap (λ e. (bundle_name session load, Some (bundle_document session e))) same in
    listed_more f front files _ 1 load (omega (arith, some)) before file

pub lines_more : (state session load : ℕ) (d : Drawn) (lines : List ℕ) → 0 < load → lines ≡ lines_from state session (load - 1) → d ≡ drawn state 1 load
    → lines ++ load_lines session load d ≡ lines_from state session (load + 1 - 1)
unfolding lines_from
lines_more state session load d lines some before same =
    ap (λ ls. ls ++ load_lines session load d) before ∙ ap (λ e. flat_map (λ k. load_lines session k (drawn state 1 k)) (range_with_len 1 (load - 1)) ++ load_lines session load e) same
    ∙ joined_more (λ k. load_lines session k (drawn state 1 k)) 1 load (omega (arith, some))

-- a session's script
pub script_is : (number session state : ℕ) → state ≡ state_after number (42 * (session - 1)) → lines_from state session 6 ≡ script_text number session
unfolding lines_from script_text
script_is number session state left =
    ap (λ f. flat_map (λ load. load_lines session load (f load)) (range_with_len 1 6)) (fun_ext (λ load. drawn_session number session state load left))

-- no session
pub bundles_start : (number : ℕ) → bundles_until number 0 ≡ []
unfolding bundles_until
bundles_start number = refl

pub scripts_start : (number : ℕ) → scripts_until number 0 ≡ []
unfolding scripts_until
scripts_start number = refl

-- one session more
pub bundles_on : (number session state : ℕ) (files : List (List ℕ × Option Members)) → 0 < session → state ≡ state_after number (42 * (session - 1)) → files ≡ bundles_until number (session - 1)
    → files ++ bundles_from state session 6 ≡ bundles_until number (session + 1 - 1)
unfolding bundles_from bundles_until
bundles_on number session state files some left before =
    let f : ℕ → List (List ℕ × Option Members) = λ k. map (λ load. (bundle_name k load, Some (bundle_document k (drawn number k load)))) (range_with_len 1 6) in
    let these : bundles_from state session 6 ≡ f session = ap (λ g. map (λ load. (bundle_name session load, Some (bundle_document session (g load)))) (range_with_len 1 6)) (fun_ext (λ load. drawn_session number session state load left)) in
    ap (λ fs. fs ++ bundles_from state session 6) before ∙ ap (λ fs. flat_map f (range_with_len 1 (session - 1)) ++ fs) these
    ∙ joined_more f 1 session (omega (arith, some))

pub scripts_on : (number session : ℕ) (file : NamedText) (files : List NamedText) → 0 < session → files ≡ scripts_until number (session - 1) → file ≡ record { name = script_name session; text = script_text number session }
    → files ++ file ∷ [] ≡ scripts_until number (session + 1 - 1)
unfolding scripts_until
scripts_on number session file files some before same =
    listed_more (λ k. record { name = script_name k; text = script_text number k }) [] files file 1 session (omega (arith, some)) before same

-- all sessions
pub bundles_all : (number : ℕ) → bundles_until number 4 ≡ bundles_of number
unfolding bundles_until
bundles_all number = refl

pub scripts_all : (number : ℕ) → scripts_until number 4 ≡ scripts_of number
unfolding scripts_until
scripts_all number = refl
