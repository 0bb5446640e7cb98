-- The commands are simple, and no argument of theirs has a rule on another.
use Rattle.std.proofs.Common.{◌≡◌, ◌&&◌, Bool, true, false, refl, subst, sym}
use Rattle.clap.specs.Words.{App, is_simple, is_simple_and_free}
use Rattle.clap.proofs.OnLiterals.{clap_on_literals}
use Rattle.command_words.specs.Commands.{run_app, alone_app, check_app, generate_app}

first_of_both : (a b : Bool) → (a && b) ≡ true → a ≡ true
first_of_both true b both = refl
first_of_both false b both = both

pub simple_of_free : (a : App) → is_simple_and_free a ≡ true → is_simple a ≡ true
simple_of_free a free = first_of_both (is_simple a) _ free

pub run_is_free : is_simple_and_free run_app ≡ true
unfolding clap_on_literals run_app
run_is_free = refl

pub alone_is_free : is_simple_and_free alone_app ≡ true
unfolding clap_on_literals alone_app
alone_is_free = refl

pub check_is_free : is_simple_and_free check_app ≡ true
unfolding clap_on_literals check_app
check_is_free = refl

pub generate_is_free : is_simple_and_free generate_app ≡ true
unfolding clap_on_literals generate_app
generate_is_free = refl

-- a command that was built as one that is free
pub free_as : (a app : App) → a ≡ app → is_simple_and_free app ≡ true → is_simple_and_free a ≡ true
free_as a app is free = subst (λ x. is_simple_and_free x ≡ true) (sym is) free
