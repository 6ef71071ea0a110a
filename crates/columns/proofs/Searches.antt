-- The choosers' loops.
use Rattle.std.proofs.Common.{◌≡◌, ℕ, ◌+◌, ◌<◌, ◌≤◌, Bool, ◌≢◌, if◌then◌else◌, List, length, get_or, set, take, drop, Some, None, Option, MatchOption, sym, ap, ◌∙◌, arith, ap₂, below_more, get_or-set_other, get_or-set_same, ext_get_or}
use Rattle.std.proofs.lemmas.List.{length-take-le, get_or-take}
use Rattle.std.specs.Option.{option_or}
use Rattle.columns.specs.Picks.{Pick, Fit, greatest_from, marked, masked, keep_free}
use Rattle.columns.specs.Lemmas.Picks.{guard_on, length_masked, masked_at}

-- what is left of the codes from place i on gives the answer of all of them
abbrev pub Greater : List ℕ → ℕ → Option ℕ → ℕ → Type 0
Greater cs i best top = greatest_from best top i (drop i cs) ≡ greatest_from None 0 0 cs

module _ (p : Pick) (m : List Bool) (cs us : List ℕ) (fit : Fit cs us) where
  -- the part of the table that was filled
  pub shown_whole : (table : List ℕ) (n i : ℕ) → length table ≡ 96 → n ≡ length cs → length cs ≤ i → ((k : ℕ) → k < i → get_or table k 0 ≡ get_or (masked m cs us) k 0) → take n table ≡ masked m cs us
  shown_whole table n i l e h inv =
      let t : length (take n table) ≡ n = length-take-le n table (omega (arith, fit.1)) in
      ext_get_or 0 (take n table) (masked m cs us) (omega (arith, length_masked m cs us)) (λ k b. let b' : k < n = omega arith in get_or-take n table k 0 b' ∙ inv k (omega arith))

  -- one code more
  pub shown_next : (table : List ℕ) (i n code c u : ℕ) → length table ≡ 96 → i ≡ n → n < length cs → c ≡ get_or cs n 0 → u ≡ get_or us n 0 → code ≡ (if marked m u then 0 else c)
      → ((k : ℕ) → k < n → get_or table k 0 ≡ get_or (masked m cs us) k 0) → (k : ℕ) → k < n + 1 → get_or (set table i code) k 0 ≡ get_or (masked m cs us) k 0
  shown_next table i n code c u l at h is_c is_u e inv =
      below_more _ n
      (λ k lt. let ne : k ≢ i = omega arith in get_or-set_other table i k code 0 ne ∙ inv k lt)
      (let lt : n < length table = omega (arith, fit.0, fit.1) in
      ap (λ j. get_or (set table j code) n 0) at ∙ get_or-set_same table n code 0 lt
      ∙ e ∙ ap₂ (λ v w. if marked m v then 0 else w) is_u is_c ∙ sym (masked_at m cs us n h (omega (arith, fit.0))))

  unguarded : keep_free p m cs us ≡ option_or (p (masked m cs us) us) (p cs us)
  unguarded = guard_on (λ xs ys. option_or (p (masked m xs ys) ys) (p xs ys)) cs us fit

  -- where none is picked from the masked codes, the answer is that of the codes as received
  pub kept : (shown : List ℕ) (o r : Option ℕ) → shown ≡ masked m cs us → o ≡ p shown us → MatchOption o (r ≡ p cs us) (λ i. r ≡ Some i) → r ≡ keep_free p m cs us
  kept shown o r t h e = either o e ∙ ap (λ q. option_or q (p cs us)) (h ∙ ap (λ s. p s us) t) ∙ sym unguarded
    where
      either : (o : Option ℕ) → MatchOption o (r ≡ p cs us) (λ i. r ≡ Some i) → r ≡ option_or o (p cs us)
      either None e = e
      either (Some i) e = e
