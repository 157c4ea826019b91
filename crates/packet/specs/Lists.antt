-- Lists and tests.
use Rattle.std.specs.Prelude.{ℕ, ◌+◌, Bool, true, false, cond, ◌&&◌, ◌||◌, List, [], ◌∷◌, ◌++◌, Option, None, Some}

-- some of them, all of them, those of a list that pass a test
unfoldable pub any_of : {A : Type 0} → (A → Bool) → List A → Bool
any_of test [] = false
any_of test (x ∷ xs) = test x || any_of test xs

unfoldable pub all_of : {A : Type 0} → (A → Bool) → List A → Bool
all_of test [] = true
all_of test (x ∷ xs) = test x && all_of test xs

unfoldable pub those : {A : Type 0} → (A → Bool) → List A → List A
those test [] = []
those test (x ∷ xs) = cond (test x) (x ∷ []) [] ++ those test xs

-- the number of the first of a list that passes a test, where the list's first has number n
unfoldable pub first_from : {A : Type 0} → (A → Bool) → List A → ℕ → Option ℕ
first_from test [] n = None
first_from test (x ∷ xs) n = let later = first_from test xs (n + 1) in cond (test x) (Some n) later

-- all of a list are so
unfoldable pub AllAre : {A : Type 0} → (A → Type 0) → List A → Type 0
AllAre P [] = Unit {0}
AllAre P (x ∷ xs) = P x × AllAre P xs
