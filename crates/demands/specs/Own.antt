-- The numbers that the whole session shares, under a box's own number: each box is taken at set-up; and the bytes of a message go by the
-- shared ones, not by the number of the box that writes or reads it, and by the first k rows and columns of its matrix.
--
-- In order: each box is taken; one message; a message to each box.
-- Assumes nothing.
use Rattle.std.specs.Prelude.{◌≡◌, refl, true, List, ◌∷◌, ◌++◌, ℕ, ◌+◌}
use Rattle.std.proofs.Common.{ap}
use Rattle.folds.specs.Runs.{gather-same}
use Rattle.rules.specs.declared.Element.{Element}
use Rattle.rules.specs.declared.Four.{Four}
use Rattle.rules.specs.declared.SetUp.{SetUp}
use Rattle.rules.specs.declared.Message.{Message}
use Rattle.rules.specs.declared.Message.TheVariants.{Send as send, Echo as echo, Ready as ready, Recovery as recovery}
use Rattle.rules.specs.Messages.{two_bytes, matrix_bytes, polynomial_bytes, four_bytes, tag_of, body_of, framed, bytes_of, to_each, matrix_in, polynomials_in, four_in, message_in}
use Rattle.rules.specs.Record.{same_matrix}
use Rattle.rules.specs.Answers.{exponents_keep, set_up, set_up_rows, outcome_of, accepted, first_row}
use Rattle.rules.proofs.Laws.Sound.{agree_at}
use Rattle.demands.specs.Terms.Histories.{own}
use Rattle.folds.specs.Tests.{and_left, and_right, and_intro}
use Rattle.rules.specs.Numbers.{group_keeps, sizes_keep, is_box, numbers_keep}
use Rattle.demands.specs.Terms.Dealing.{Sound}

-- ---- each box is taken

-- numbers that keep their rules under the dealer's number
module _ (u : SetUp) (group : group_keeps u ≡ true) (numbers : numbers_keep (own u u.d) ≡ true) where
  pub own_sound : Sound u
  unfolding numbers_keep
  own_sound = record { group_keeps_lem = group; sizes_keep_lem = and_left _ _ numbers }

  pub own_keeps : (i : ℕ) → is_box u i ≡ true → numbers_keep (own u i) ≡ true
  unfolding numbers_keep is_box
  own_keeps i e =
      let a = and_left (sizes_keep u.n u.t u.k) _ numbers in
      let b = and_right (sizes_keep u.n u.t u.k) _ numbers in
      and_intro _ _ a (and_intro _ _ e (and_right (is_box u u.d) _ b))

  pub dealer_box : is_box u u.d ≡ true
  unfolding numbers_keep is_box
  dealer_box = and_left _ _ (and_right (sizes_keep u.n u.t u.k) _ numbers)

  pub own_taken : (i : ℕ) → is_box u i ≡ true → (set_up (own u i)).answer.no ≡ 0
  unfolding set_up set_up_rows first_row outcome_of accepted group_keeps
  own_taken i e = rw (group, own_keeps i e)

-- ---- one message

pub own_bytes : (u : SetUp) (i : ℕ) (m : Message) → bytes_of (own u i) m ≡ bytes_of u m
unfolding bytes_of body_of polynomial_bytes
own_bytes u i (send C P) = refl
own_bytes u i (echo C f) = refl
own_bytes u i (ready C f) = refl
own_bytes u i (recovery s) = refl

pub own_matrix : (u : SetUp) (i : ℕ) (bytes : List ℕ) → matrix_in (own u i) bytes ≡ matrix_in u bytes
unfolding matrix_in
own_matrix u i bytes = refl

pub own_message : (u : SetUp) (i : ℕ) (bytes : List ℕ) → message_in (own u i) bytes ≡ message_in u bytes
unfolding message_in matrix_in polynomials_in four_in
own_message u i bytes = refl

pub own_exponents : (u : SetUp) (i : ℕ) (m : Message) → exponents_keep (own u i) m ≡ exponents_keep u m
own_exponents u i (send C P) = refl
own_exponents u i (echo C f) = refl
own_exponents u i (ready C f) = refl
own_exponents u i (recovery s) = refl

-- ---- a message to each box

pub own_each : (u : SetUp) (i : ℕ) (f : ℕ → Message) → to_each (own u i) f ≡ to_each u f
unfolding to_each
own_each u i f = gather-same _ _ u.n (λ j l. own_bytes u i (f (j + 1)))

pub each_same : (u : SetUp) (f g : ℕ → Message) → ((j : ℕ) → bytes_of u (f j) ≡ bytes_of u (g j)) → to_each u f ≡ to_each u g
unfolding to_each
each_same u f g h = gather-same _ _ u.n (λ j l. h (j + 1))

-- a matrix is written as one that agrees with it
matrix_bytes_lem : (k : ℕ) (C D : List (List Element)) → same_matrix k C D ≡ true → matrix_bytes k C ≡ matrix_bytes k D
unfolding matrix_bytes
matrix_bytes_lem k C D e = gather-same _ _ k (λ j lj. gather-same _ _ k (λ l ll. ap two_bytes (agree_at k C D e j l lj ll)))

pub ready_bytes : (u : SetUp) (C D : List (List Element)) (f : Four) → same_matrix u.k C D ≡ true
    → bytes_of u (ready C f) ≡ bytes_of u (ready D f)
unfolding bytes_of body_of tag_of
ready_bytes u C D f e =
    ap (λ (r : List ℕ). framed 3 (u.d ∷ two_bytes u.session ++ (u.k ∷ r ++ four_bytes f))) (matrix_bytes_lem u.k C D e)
