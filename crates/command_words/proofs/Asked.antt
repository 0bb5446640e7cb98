-- What words ask for by a command, where `clap` finds a fault in them and where it finds none.
use Rattle.std.proofs.Common.{◌≡◌, ◌≢◌, ℕ, List, [], ◌∷◌, Option, None, refl, subst}
use Rattle.clap.specs.Words.{App, Kinds, Row, fault_of, matches_of}
use Rattle.command_words.specs.declared.request.Request.{Request}
use Rattle.command_words.specs.Request.{unless_faulty, asked_by}

none_of : (kinds : Kinds) (request : Option Request) → kinds ≢ [] → unless_faulty kinds request ≡ None
none_of [] request some = absurd (some refl)
none_of (kind ∷ kinds) request some = refl

pub asked_of_faulty : (a app : App) (meaning : List Row → Option Request) (words : List (List ℕ)) → a ≡ app
    → fault_of a words ≢ [] → asked_by app meaning words ≡ None
unfolding asked_by
asked_of_faulty a app meaning words is faulty =
    subst (λ x. unless_faulty (fault_of x words) (meaning (matches_of x words)) ≡ None) is
    (none_of (fault_of a words) (meaning (matches_of a words)) faulty)

given : (kinds : Kinds) (request : Option Request) → kinds ≡ [] → request ≡ unless_faulty kinds request
given [] request none = refl
given (kind ∷ kinds) request none = cc

pub asked_of_faultless : (a app : App) (meaning : List Row → Option Request) (words : List (List ℕ)) (rows : List Row)
    → a ≡ app → fault_of a words ≡ [] → rows ≡ matches_of a words → meaning rows ≡ asked_by app meaning words
unfolding asked_by
asked_of_faultless a app meaning words rows is none same =
    subst (λ x. meaning rows ≡ unless_faulty (fault_of x words) (meaning (matches_of x words))) is
    (subst (λ r. meaning rows ≡ unless_faulty (fault_of a words) (meaning r)) same
    (given (fault_of a words) (meaning rows) none))
