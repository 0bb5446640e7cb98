use Rattle.std.proofs.Common.{◌≡◌, ◌∙◌, ℕ, ◌+◌, ◌<◌, List, [], ◌∷◌, ◌++◌, length, map, take, get_or, slice_get, Some, Bor, ap, ap₂, sym}
use Rattle.std.proofs.lemmas.List.{map-append, take_more}
use Rattle.std.proofs.lemmas.Option.{slice_get_within, get_or_from_slice_get}
use Rattle.command_words.proofs.reading.all_words.Goals as goal

one_more : (all new : List (Bor (List ℕ))) (words : List (List ℕ)) (n : ℕ) (word : Bor (List ℕ))
    → map (λ s. s.now) all ≡ take n words → slice_get words n ≡ Some word.now → new ≡ all ++ word ∷ []
    → map (λ s. s.now) new ≡ take (n + 1) words
one_more all new words n word so_far is appended =
    let inside : n < length words = slice_get_within words n word.now is in
    let here : get_or words n word.now ≡ word.now = get_or_from_slice_get words n word.now word.now is in
    ap (map (λ s. s.now)) appended ∙ map-append (λ s. s.now) all (word ∷ [])
    ∙ ap₂ (λ front last. front ++ last ∷ []) so_far (sym here) ∙ sym (take_more words n word.now inside)

pub loop-n-preserved : goal.loop-n-preserved
loop-n-preserved c =
    one_more c.loop-n.all.items c.push.new.self.items c.args.words.now c.loop-n.n c.word.result c.loop-n.invariant c.word.ensures
    c.in_ok-push.ensures.items
