-- What the value of a flag says of its text.
use Rattle.std.proofs.Common.{◌≡◌, ◌≢◌, ℕ, Bool, true, false, List, [], Option, Some, None, MatchBool, codes, refl, unwrap_or}
use Rattle.std.specs.Str.{bytes_eq}
use Rattle.std.proofs.lemmas.Slice.Eq.{bytes_eq-Decides}

-- a value was read
pub flag_read : (value : Bool) (text : Option (List ℕ)) → (text ≡ None → Some value ≡ None)
    → ((t : List ℕ) → text ≡ Some t → MatchBool value (t ≡ codes "true") (t ≡ codes "false"))
    → value ≡ bytes_eq (unwrap_or text []) (codes "true")
flag_read value None none reads = cc (none refl)
flag_read true (Some t) none reads = rw (reads t refl) refl
flag_read false (Some t) none reads = rw (reads t refl) refl

differs : (b : Bool) → (b ≢ true) → false ≡ b
differs true never = absurd (never refl)
differs false never = refl

-- no value was read
pub flag_unread : {E : Type 0} (text : Option (List ℕ))
    → ((t : List ℕ) → text ≡ Some t → E × ((t ≢ codes "true") × (t ≢ codes "false")))
    → false ≡ bytes_eq (unwrap_or text []) (codes "true")
flag_unread None reads = refl
flag_unread (Some t) reads =
    differs (bytes_eq t (codes "true")) (λ e. (reads t refl).1.0 ((bytes_eq-Decides t (codes "true")).0 e))
