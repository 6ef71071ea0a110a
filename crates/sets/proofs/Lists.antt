-- Lists by place, and what holds of every element.
use Rattle.std.proofs.Common.{◌≡◌, ℕ, zero, suc, ◌+◌, ◌<◌, List, [], ◌∷◌, ◌++◌, length, get_or, refl, ap, ◌∙◌, ap₂, arith}
use Rattle.sets.specs.States.{listed}

pub length_listed : {X : Type 0} (n : ℕ) (f : ℕ → X) → length (listed n f) ≡ n
unfolding listed
length_listed zero f = refl
length_listed (suc n) f = ap suc (length_listed n (λ i. f (suc i)))

pub getD_listed : {X : Type 0} (n : ℕ) (f : ℕ → X) (d : X) (i : ℕ) → i < n → get_or (listed n f) i d ≡ f i
unfolding listed
getD_listed zero f d i l = absurd (omega arith)
getD_listed (suc n) f d zero l = refl
getD_listed (suc n) f d (suc i) l = getD_listed n (λ i. f (suc i)) d i (omega arith)

pub listed_same : {X : Type 0} (n : ℕ) (f g : ℕ → X) → ((j : ℕ) → j < n → f j ≡ g j) → listed n f ≡ listed n g
unfolding listed
listed_same zero f g e = refl
listed_same (suc n) f g e = ap₂ (λ x xs. x ∷ xs) (e 0 (omega arith)) (listed_same n _ _ (λ j l. e (suc j) (omega arith)))

pub listed_cut : {X : Type 0} (a b : ℕ) (f : ℕ → X) → listed (a + b) f ≡ listed a f ++ listed b (λ j. f (a + j))
unfolding listed
listed_cut zero b f = let e : 0 + b ≡ b = omega arith in ap (λ n. listed n f) e ∙ listed_same b f _ (λ j l. let q : j ≡ 0 + j = omega arith in ap f q)
listed_cut (suc a) b f =
    let e : suc a + b ≡ suc (a + b) = omega arith in
    ap (λ n. listed n f) e
    ∙ ap (λ xs. f 0 ∷ xs) (listed_cut a b (λ j. f (suc j)) ∙ ap (λ ys. listed a (λ j. f (suc j)) ++ ys) (listed_same b _ _ (λ j l. let q : suc (a + j) ≡ suc a + j = omega arith in ap f q)))

abbrev pub Every : {A : Type 0} → (A → Type 0) → List A → Type 0
Every P [] = Unit {0}
Every P (x ∷ xs) = P x × Every P xs

pub every_at : {A : Type 0} (P : A → Type 0) (d : A) (xs : List A) → Every P xs → (p : ℕ) → p < length xs → P (get_or xs p d)
every_at P d [] h p l = absurd (omega arith)
every_at P d (x ∷ xs) h zero l = h.0
every_at P d (x ∷ xs) h (suc p) l = every_at P d xs h.1 p (omega arith)

pub every_on : {A : Type 0} (P : A → Type 0) (xs ys : List A) → Every P xs → Every P ys → Every P (xs ++ ys)
every_on P [] ys p q = q
every_on P (x ∷ xs) ys (h, p) q = (h, every_on P xs ys p q)

pub every_map : {A : Type 0} (P Q : A → Type 0) (xs : List A) → ((x : A) → P x → Q x) → Every P xs → Every Q xs
every_map P Q [] f p = tt
every_map P Q (x ∷ xs) f (h, p) = (f x h, every_map P Q xs f p)
