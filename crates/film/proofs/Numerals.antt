-- The number that a field writes. Assumes nothing.
use Rattle.std.proofs.Common.{◌≡◌, ℕ, zero, suc, ◌^◌, ◌<◌, ◌≤◌, true, false, eqb, List, [], ◌∷◌, length, get_or, take, drop, ℤ, pos, negsuc, Some, None, Ok, Err, decimal, Option, Result, sym, refl, ap, ◌∙◌, subst, inl, inr, arith}
use Rattle.std.specs.Str.Parse.{digits_value, AllDigits}
use Rattle.std.specs.Int.{IsInRange}
use Rattle.std.specs.Prelude.{◌≢◌, MatchOption}
use Rattle.std.proofs.Math.IntN.{neg_ℤ}
use Rattle.std.specs.Fmt.{signed_decimal}
use Rattle.std.specs.Str.{bytes_eq}
use Rattle.std.proofs.lemmas.List.{length-take}
use Rattle.std.proofs.lemmas.Str.Parse.{IsNumeralModel, numerals_by_value, tells_digits, digit_at, digits_value_short}
use Rattle.std.proofs.lemmas.Slice.Eq.{bytes_eq-Decides}
use Rattle.std.proofs.lemmas.Bool.{cases_Bool, cases_lt, cond-true, cond-false, eqb-true, ne_eqb}
use Rattle.std.proofs.lemmas.Fmt.{decimal_is_IsNumeral, decimal_nonempty, length-decimal-le, first_decimal, decimal-digits_value, decimal_digit, decimal_injective}
use Rattle.film.specs.declared.fault.Fault.{Fault}
use Rattle.film.specs.declared.fault.Fault.TheVariants.{BadField}
use Rattle.film.specs.Faults.{or_bad_field}
use Rattle.film.specs.Numbers.{number_below, plus, minus, level_in, Level, OneForm, OneSignedForm}

own : IsNumeralModel (AllDigits 10) (digits_value 10)
own = numerals_by_value (AllDigits 10) tells_digits

small : (n : ℕ) → n < 65536 → n < 2 ^ 64
small n h = omega arith

pub same_decimal : (m n : ℕ) → m < 65536 → n < 65536 → decimal m ≡ decimal n → m ≡ n
same_decimal m n h k e = decimal_injective m n (small m h) (small n k) e

-- what a field looks like that writes a number
module _ (bs : List ℕ) (n : ℕ) (h : n < 65536) (e : bs ≡ decimal n) where
  pub writes_some : 0 < length bs
  writes_some = rw e (decimal_nonempty n (small n h))

  pub writes_short : length bs ≤ 5
  writes_short = rw e (length-decimal-le 5 n (omega arith) (omega arith) (small n h))

  pub writes_digit : (i : ℕ) → i < length bs → IsInRange 48 57 (get_or bs i 0)
  writes_digit i k = digit_at bs i (rw e (decimal_is_IsNumeral n (small n h)).0.1) k

  pub writes_value : digits_value 10 bs ≡ n
  writes_value = rw e (decimal_is_IsNumeral n (small n h)).1

  pub writes_first : get_or bs 0 0 ≡ 48 → length bs ≡ 1
  writes_first z =
      elim (cases_lt 0 n) [
        | inl k ↦ absurd (omega (arith, rw (← e) at (first_decimal n k (small n h))))
        | inr k ↦ let z : n ≡ 0 = omega arith in ap length (e ∙ ap decimal z ∙ decimal_digit 0 (omega arith))
      ]

-- fewer than five digits
pub front_short : (bs : List ℕ) (i : ℕ) → i < length bs → length bs ≤ 5 → AllDigits 10 (take i bs) → digits_value 10 (take i bs) < 10000
front_short bs i h k d = digits_value_short own (take i bs) 4 d (simp length-take (omega arith))

pub writes_back : (bs : List ℕ) (n : ℕ) → AllDigits 10 bs → 0 < length bs → (get_or bs 0 0 ≡ 48 → length bs ≡ 1) → n ≡ digits_value 10 bs → n < 65536 → bs ≡ decimal n
writes_back bs n d some first v h = sym (decimal-digits_value own bs d some first (omega (arith, v))) ∙ ap decimal (sym v)

-- the number below a limit is the one whose decimal form the field is
pub below_is : (k : ℕ) (bs : List ℕ) (n : ℕ) → number_below k bs ≡ Some n → (n < k) × (bs ≡ decimal n)
unfolding number_below
below_is zero bs n e = absurd (let z : ◌≡◌ {A = ℕ} 0 1 = cc in omega arith)
below_is (suc k) bs n e =
    elim (cases_Bool (bytes_eq bs (decimal k))) [
      | inl h ↦ let f : Some k ≡ Some n = simp h at e in let g : k ≡ n = cc in (omega arith, (bytes_eq-Decides bs (decimal k)).0 h ∙ ap decimal g)
      | inr h ↦ let f : number_below k bs ≡ Some n = simp h at e in let r = below_is k bs n f in (omega (arith, r.0), r.1)
    ]

pub below_back : (k n : ℕ) → n < k → k ≤ 65536 → number_below k (decimal n) ≡ Some n
unfolding number_below
below_back zero n h l = absurd (omega arith)
below_back (suc k) n h l =
    elim (cases_Bool (bytes_eq (decimal n) (decimal k))) [
      | inl s ↦ let e : k ≡ n = same_decimal k n (omega arith) (omega arith) (sym ((bytes_eq-Decides (decimal n) (decimal k)).0 s)) in rw s (ap Some e)
      | inr s ↦
          elim (cases_lt n k) [
            | inl m ↦ rw s (below_back k n m (omega arith))
            | inr m ↦
                let e : n ≡ k = omega arith in
                let f : false ≡ true = sym s ∙ (bytes_eq-Decides (decimal n) (decimal k)).1 (ap decimal e) in
                absurd (let z : ◌≡◌ {A = ℕ} 0 1 = cc in omega arith)
          ]
    ]

pub below_some : (k : ℕ) (bs : List ℕ) (n : ℕ) → k ≤ 65536 → n < k → bs ≡ decimal n → Some n ≡ number_below k bs
below_some k bs n l h e = sym (ap (number_below k) e ∙ below_back k n h l)

pub below_none : (k : ℕ) (bs : List ℕ) → ((n : ℕ) → n < k → bs ≡ decimal n → ⊥) → None ≡ number_below k bs
below_none k bs none = by (number_below k bs) refl where
  by : (o : Option ℕ) → number_below k bs ≡ o → None ≡ o
  by None e = refl
  by (Some n) e = let p = below_is k bs n e in absurd (none n p.0 p.1)

-- a field that writes a level
pub level_is : (bs : List ℕ) (z : ℤ) → level_in bs ≡ Some z → (bs ≡ signed_decimal z) × Level z
unfolding level_in
level_is [] z e = absurd (let z : ◌≡◌ {A = ℕ} 0 1 = cc in omega arith)
level_is (b ∷ bs) z e =
    elim (cases_Bool (eqb b 45)) [
      | inl t ↦ down (eqb-true b 45 t) (number_below 32769 bs) refl (sym (cond-true _ _ _ t) ∙ e)
      | inr t ↦ up (number_below 32768 (b ∷ bs)) refl (sym (cond-false _ _ _ t) ∙ e)
    ]
  where
    down : b ≡ 45 → (o : Option ℕ) → number_below 32769 bs ≡ o → minus o ≡ Some z → (b ∷ bs ≡ signed_decimal z) × Level z
    down t None f g = absurd (let z : ◌≡◌ {A = ℕ} 0 1 = cc in omega arith)
    down t (Some zero) f g = absurd (let z : ◌≡◌ {A = ℕ} 0 1 = cc in omega arith)
    down t (Some (suc n)) f g =
        let r = below_is 32769 bs (suc n) f in
        let q : negsuc n ≡ z = cc in
        subst (λ y. (b ∷ bs ≡ signed_decimal y) × Level y) q (ap (λ x. x ∷ bs) t ∙ ap (λ xs. 45 ∷ xs) r.1, omega (arith, r.0))

    up : (o : Option ℕ) → number_below 32768 (b ∷ bs) ≡ o → plus o ≡ Some z → (b ∷ bs ≡ signed_decimal z) × Level z
    up None f g = absurd (let z : ◌≡◌ {A = ℕ} 0 1 = cc in omega arith)
    up (Some zero) f g = absurd (let z : ◌≡◌ {A = ℕ} 0 1 = cc in omega arith)
    up (Some (suc n)) f g =
        let r = below_is 32768 (b ∷ bs) (suc n) f in
        let q : pos (suc n) ≡ z = cc in
        subst (λ y. (b ∷ bs ≡ signed_decimal y) × Level y) q (r.1, omega (arith, r.0))

plain_level : (n : ℕ) (bs : List ℕ) → suc n ≤ 32767 → bs ≡ decimal (suc n) → level_in bs ≡ Some (pos (suc n))
unfolding level_in
plain_level n [] h e = absurd (omega (arith, writes_some [] (suc n) (omega arith) e))
plain_level n (b ∷ bs) h e =
    let d = writes_digit (b ∷ bs) (suc n) (omega arith) e 0 (omega arith) in
    let ne : b ≡ 45 → ⊥ = λ q. omega (arith, d.0) in
    cond-false _ _ _ (ne_eqb b 45 ne) ∙ ap plus (sym (below_some 32768 (b ∷ bs) (suc n) (omega arith) (omega arith) e))

pub level_back : (z : ℤ) → Level z → level_in (signed_decimal z) ≡ Some z
unfolding level_in
level_back (pos zero) h = absurd h
level_back (pos (suc n)) h = plain_level n (decimal (suc n)) h refl
level_back (negsuc n) h = ap minus (below_back 32769 (suc n) (omega arith) (omega arith))

-- what a field without a value is answered with
pub err_none : {X : Type 0} (o : Option X) (e : Fault) → Err e ≡ or_bad_field o → (e ≡ BadField) × (o ≡ None)
err_none (Some x) e h = absurd (let z : ◌≡◌ {A = ℕ} 0 1 = cc in omega arith)
err_none None e h = let q : e ≡ BadField = cc in (q, refl)

-- an answer that is the number is it exactly where the field is its form
pub ok_some : {X : Type 0} (o : Option X) (x : X) → or_bad_field o ≡ Ok x → o ≡ Some x
ok_some (Some y) x e = let q : y ≡ x = cc in ap Some q
ok_some None x e = absurd (let z : ◌≡◌ {A = ℕ} 0 1 = cc in omega arith)

pub one_form : (bs : List ℕ) (r : Result ℕ Fault) → r ≡ or_bad_field (number_below 65536 bs) → OneForm r bs
one_form bs r e n = (
  (λ h. e ∙ ap or_bad_field (sym (below_some 65536 bs n (omega arith) (omega (arith, h.1)) h.0))),
  (λ h. let p = below_is 65536 bs n (ok_some (number_below 65536 bs) n (sym e ∙ h)) in (p.1, omega (arith, p.0))),
)

pub one_signed_form : (bs : List ℕ) (r : Result ℤ Fault) → r ≡ or_bad_field (level_in bs) → OneSignedForm r bs
one_signed_form bs r e z = (
  (λ h. e ∙ ap or_bad_field (ap level_in h.0 ∙ level_back z h.1)),
  (λ h. level_is bs z (ok_some (level_in bs) z (sym e ∙ h))),
)

-- a level that a call made unless it is 0, with a minus and without
minus_is : (n : ℕ) (z : ℤ) (r : Option ℤ) → z ≡ neg_ℤ (pos n) → MatchOption r (z ≡ pos 0) (λ y. (y ≡ z) × (z ≢ pos 0)) → r ≡ minus (Some n)
minus_is zero z None e h = refl
minus_is zero z (Some y) e h = absurd (h.1 e)
minus_is (suc n) z None e h = absurd (let q : pos 0 ≡ negsuc n = sym h ∙ e in let k : ◌≡◌ {A = ℕ} 0 1 = cc in omega arith)
minus_is (suc n) z (Some y) e h = ap Some (h.0 ∙ e)

plus_is : (n : ℕ) (z : ℤ) (r : Option ℤ) → z ≡ pos n → MatchOption r (z ≡ pos 0) (λ y. (y ≡ z) × (z ≢ pos 0)) → r ≡ plus (Some n)
plus_is zero z None e h = refl
plus_is zero z (Some y) e h = absurd (h.1 e)
plus_is (suc n) z None e h = absurd (let q : pos (suc n) ≡ pos 0 = sym e ∙ h in let k : suc n ≡ 0 = cc in omega arith)
plus_is (suc n) z (Some y) e h = ap Some (h.0 ∙ e)

-- with a minus in front, and without
level_minus : (bs : List ℕ) → 0 < length bs → get_or bs 0 0 ≡ 45 → level_in bs ≡ minus (number_below 32769 (drop 1 bs))
unfolding level_in
level_minus [] some e = absurd (omega arith)
level_minus (b ∷ bs) some e = rw e refl

level_plus : (bs : List ℕ) → (0 < length bs → get_or bs 0 0 ≡ 45 → ⊥) → level_in bs ≡ plus (number_below 32768 bs)
unfolding level_in
level_plus [] ne = ap plus (below_none 32768 [] (λ n h e. omega (arith, writes_some [] n (omega (arith, h)) e)))
level_plus (b ∷ bs) ne = cond-false _ _ _ (ne_eqb b 45 (ne (omega arith)))

module _ (bs : List ℕ) (some : 0 < length bs) (e : get_or bs 0 0 ≡ 45) where
  pub minus_none : None ≡ number_below 32769 (drop 1 bs) → None ≡ level_in bs
  minus_none h = ap minus h ∙ sym (level_minus bs some e)

  pub minus_some : (n : ℕ) (z : ℤ) (r : Option ℤ) → Some n ≡ number_below 32769 (drop 1 bs) → z ≡ neg_ℤ (pos n) → MatchOption r (z ≡ pos 0) (λ y. (y ≡ z) × (z ≢ pos 0)) → r ≡ level_in bs
  minus_some n z r h w m = minus_is n z r w m ∙ ap minus h ∙ sym (level_minus bs some e)

module _ (bs : List ℕ) (ne : 0 < length bs → get_or bs 0 0 ≡ 45 → ⊥) where
  pub plus_none : None ≡ number_below 32768 bs → None ≡ level_in bs
  plus_none h = ap plus h ∙ sym (level_plus bs ne)

  pub plus_some : (n : ℕ) (z : ℤ) (r : Option ℤ) → Some n ≡ number_below 32768 bs → z ≡ pos n → MatchOption r (z ≡ pos 0) (λ y. (y ≡ z) × (z ≢ pos 0)) → r ≡ level_in bs
  plus_some n z r h w m = plus_is n z r w m ∙ ap plus h ∙ sym (level_plus bs ne)
