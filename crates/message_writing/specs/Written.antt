-- What a writer's contract names beside the definitions of `rules`: a header, what a message with a matrix begins with,
-- what goes to box j of a list that has a place for each box; and what a writer asks and leaves.
-- Assumes nothing.
use Rattle.std.specs.Prelude.{List, [], ◌∷◌, ◌++◌, ◌≡◌, ℕ, ◌+◌, ◌-◌, ◌*◌, ◌≤◌, length, get_or}
use Rattle.std.proofs.lemmas.List.Edits.{sets}
use denote.MutBor.{MutBor}
use Rattle.rules.specs.declared.Element.{Element}
use Rattle.rules.specs.declared.Polynomials.{Polynomials}
use Rattle.rules.specs.declared.SetUp.{SetUp}
use Rattle.rules.specs.declared.Message.{Message}
use Rattle.rules.specs.Messages.{two_bytes, matrix_bytes, bytes_of, written}
use Rattle.rules.specs.Laws.RoundTrip.{SetUpFits}

unfoldable pub head_bytes : SetUp → ℕ → ℕ → List ℕ
head_bytes u tag size = tag ∷ two_bytes size ++ u.d ∷ two_bytes u.session

-- the header, k and the matrix, before an end of so many bytes
unfoldable pub opening_bytes : SetUp → ℕ → ℕ → List (List Element) → List ℕ
opening_bytes u tag end C = head_bytes u tag (4 + 2 * (u.k * u.k) + end) ++ u.k ∷ matrix_bytes u.k C

abbrev pub no_polynomials : Polynomials
no_polynomials = record { a = []; a2 = []; b = []; b2 = [] }

abbrev pub to_box : {A : Type 0} → List A → A → ℕ → A
to_box all none j = get_or all (j - 1) none

-- w bytes are put into a buffer from `at` on, and the place behind them is handed back
pub record Puts (at w : ℕ) (bytes out₀ out : List ℕ) (next : ℕ) : Type 0 where
  pub place : next ≡ at + w
  pub width : length bytes ≡ w
  pub stored : out ≡ sets out₀ at bytes

-- bytes are written at the front of a buffer, and counted
pub record Writes (bytes out₀ out : List ℕ) (count : ℕ) : Type 0 where
  pub counted : count ≡ length bytes
  pub front : out ≡ written bytes out₀

-- a closure, by what its calls leave true (`post`), writes message g j at the front of what it is lent, when it is called with j
abbrev pub EachWrites : SetUp → (ℕ → Message) → (MutBor (List ℕ) → ℕ → ℕ → MutBor (List ℕ) → Type 0) → Type 0
EachWrites u g post = (lent : _) (j count : ℕ) (back : _) → post lent j count back → Writes (bytes_of u (g j)) lent.now back.now count

-- the set-up numbers have room in a message, and a message to each box has in the lent buffer
pub record CanSend (u : SetUp) (out : List ℕ) : Type 0 where
  pub boxes : u.n ≤ 10
  pub fits : SetUpFits u
  pub lent : 2048 ≤ length out
