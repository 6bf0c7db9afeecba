-- What was read, put together, is the text; and reading to the end. Assumes nothing.
use Rattle.std.proofs.Common.{◌≡◌, ℕ, zero, suc, ◌+◌, ◌<◌, ◌≤◌, eqb, List, [], ◌∷◌, ◌++◌, length, drop, IfOk, Some, None, Ok, Err, Option, Result, sym, refl, ap, ◌∙◌, subst, inl, inr, arith, Bor}
use Rattle.std.proofs.lemmas.List.{length-append}
use Rattle.std.proofs.lemmas.Bool.{cases_Bool, eqb-true}
use Rattle.film.specs.declared.fault.Fault.{Fault}
use Rattle.film.specs.declared.fault.Fault.TheVariants.{BadLine}
use Rattle.film.specs.declared.line.Line.{Line}
use Rattle.film.specs.Fields.{cut_at, at_tabs, tabbed}
use Rattle.film.specs.Lines.{Parts, M, Q, S, T, R, parts_of, line_seen, m_line, q_line, s_line, by_fields, parse, with_rest, cut_line, line_of, together, Joins, ReadsLine}
use Rattle.film.specs.Films.{one_more, count_on, line_count}
use Rattle.film.proofs.Places.{cut_whole}
use Rattle.film.proofs.Splits.{tabbed_end, tabbed_tabs}

-- each line's fields, put together
m_whole : (fs : List (List ℕ)) (p : Parts) (rest : List ℕ) → m_line fs ≡ Ok p → together p rest ≡ 77 ∷ tabbed fs (10 ∷ rest)
m_whole [] p rest e = absurd (let z : ◌≡◌ {A = ℕ} 0 1 = cc in omega arith)
m_whole (a ∷ []) p rest e = absurd (let z : ◌≡◌ {A = ℕ} 0 1 = cc in omega arith)
m_whole (a ∷ b ∷ []) p rest e = absurd (let z : ◌≡◌ {A = ℕ} 0 1 = cc in omega arith)
m_whole (a ∷ b ∷ c ∷ []) p rest e = let f : p ≡ M a b c = cc in rw f refl
m_whole (a ∷ b ∷ c ∷ d ∷ ds) p rest e = absurd (let z : ◌≡◌ {A = ℕ} 0 1 = cc in omega arith)

q_whole : (fs : List (List ℕ)) (p : Parts) (rest : List ℕ) → q_line fs ≡ Ok p → together p rest ≡ 81 ∷ tabbed fs (10 ∷ rest)
q_whole [] p rest e = absurd (let z : ◌≡◌ {A = ℕ} 0 1 = cc in omega arith)
q_whole (a ∷ []) p rest e = absurd (let z : ◌≡◌ {A = ℕ} 0 1 = cc in omega arith)
q_whole (a ∷ b ∷ []) p rest e = let f : p ≡ Q a b = cc in rw f refl
q_whole (a ∷ b ∷ c ∷ cs) p rest e = absurd (let z : ◌≡◌ {A = ℕ} 0 1 = cc in omega arith)

s_whole : (fs : List (List ℕ)) (p : Parts) (rest : List ℕ) → s_line fs ≡ Ok p → together p rest ≡ 83 ∷ tabbed fs (10 ∷ rest)
s_whole [] p rest e = let f : p ≡ S = cc in rw f refl
s_whole (a ∷ more) p rest e = absurd (let z : ◌≡◌ {A = ℕ} 0 1 = cc in omega arith)

-- a letter and fields are the line
lettered : (line : List ℕ) (l x : ℕ) (fs : List (List ℕ)) (rest : List ℕ) → line ≡ l ∷ tabbed fs [] → l ≡ x → x ∷ tabbed fs (10 ∷ rest) ≡ line ++ (10 ∷ rest)
lettered line l x fs rest w k = ap (λ y. y ∷ tabbed fs (10 ∷ rest)) (sym k) ∙ ap (λ ys. l ∷ ys) (tabbed_end fs (10 ∷ rest)) ∙ ap (λ ys. ys ++ (10 ∷ rest)) (sym w)

tailed : (line : List ℕ) (l x : ℕ) (fs : List (List ℕ)) (rest : List ℕ) → line ≡ l ∷ tabbed fs [] → l ≡ x → x ∷ (drop 1 line ++ (10 ∷ rest)) ≡ line ++ (10 ∷ rest)
tailed line l x fs rest w k = rw (w, sym k) refl

by_whole : (line : List ℕ) (fs : List (List ℕ)) (p : Parts) (rest : List ℕ) → tabbed fs [] ≡ 9 ∷ line → by_fields line fs ≡ Ok p → together p rest ≡ line ++ (10 ∷ rest)
by_whole line [] p rest g e = absurd (let z : ◌≡◌ {A = ℕ} 0 1 = cc in omega arith)
by_whole line ([] ∷ fs) p rest g e = absurd (let z : ◌≡◌ {A = ℕ} 0 1 = cc in omega arith)
by_whole line ((x ∷ y ∷ ys) ∷ fs) p rest g e = absurd (let z : ◌≡◌ {A = ℕ} 0 1 = cc in omega arith)
by_whole line ((l ∷ []) ∷ fs) p rest g e =
    let w : line ≡ l ∷ tabbed fs [] = sym (ap (drop 1) g) in
    elim (cases_Bool (eqb l 77)) [
      | inl a ↦ m_whole fs p rest (simp a at e) ∙ lettered line l 77 fs rest w (eqb-true l 77 a)
      | inr a ↦ elim (cases_Bool (eqb l 81)) [
        | inl b ↦ q_whole fs p rest (simp (a, b) at e) ∙ lettered line l 81 fs rest w (eqb-true l 81 b)
        | inr b ↦ elim (cases_Bool (eqb l 83)) [
          | inl c ↦ s_whole fs p rest (simp (a, b, c) at e) ∙ lettered line l 83 fs rest w (eqb-true l 83 c)
          | inr c ↦ elim (cases_Bool (eqb l 84)) [
            | inl d ↦
                let f : ◌≡◌ {A = Result Parts Fault} (Ok (T (drop 1 line))) (Ok p) = simp (a, b, c, d) at e in
                let h : p ≡ T (drop 1 line) = cc in
                rw h (tailed line l 84 fs rest w (eqb-true l 84 d))
            | inr d ↦ elim (cases_Bool (eqb l 82)) [
              | inl k ↦
                  let f : ◌≡◌ {A = Result Parts Fault} (Ok (R (drop 1 line))) (Ok p) = simp (a, b, c, d, k) at e in
                  let h : p ≡ R (drop 1 line) = cc in
                  rw h (tailed line l 82 fs rest w (eqb-true l 82 k))
              | inr k ↦ let f : ◌≡◌ {A = Result Parts Fault} (Err BadLine) (Ok p) = simp (a, b, c, d, k) at e in absurd (let z : ◌≡◌ {A = ℕ} 0 1 = cc in omega arith)
            ]
          ]
        ]
      ]
    ]

before_joins : (text line rest : List ℕ) (o : Result Parts Fault) → line ++ (10 ∷ rest) ≡ text → parse line ≡ o → Joins (with_rest rest o) text
before_joins text line rest (Err e) w h = tt
before_joins text line rest (Ok p) w h = by_whole line (at_tabs line) p rest (tabbed_tabs line) h ∙ w

cut_joins : (text : List ℕ) (o : Option (List ℕ × List ℕ)) → cut_at 10 text ≡ o → Joins (cut_line o) text
cut_joins text None e = tt
cut_joins text (Some p) e = before_joins text p.0 p.1 (parse p.0) (cut_whole 10 text p.0 p.1 e) refl

-- what was read, put together, is the text
pub line_joins : (text : List ℕ) → Joins (line_of text) text
unfolding line_of
line_joins text = cut_joins text (cut_at 10 text) refl

pub whole : (text : List ℕ) (p : Parts) (rest : List ℕ) → line_of text ≡ Ok (p, rest) → together p rest ≡ text
whole text p rest e = subst (λ o. Joins o text) e (line_joins text)

-- so the rest is shorter
length_tabbed : (fs : List (List ℕ)) (end : List ℕ) → length end ≤ length (tabbed fs end)
length_tabbed [] end = omega arith
length_tabbed (f ∷ fs) end = omega (arith, length_tabbed fs end, length-append f (tabbed fs end))

pub shorter : (p : Parts) (rest text : List ℕ) → together p rest ≡ text → length rest < length text
shorter (M a b c) rest text e = omega (arith, ap length e, length_tabbed (a ∷ b ∷ c ∷ []) (10 ∷ rest))
shorter (Q a b) rest text e = omega (arith, ap length e, length_tabbed (a ∷ b ∷ []) (10 ∷ rest))
shorter S rest text e = omega (arith, ap length e)
shorter (T tail) rest text e = omega (arith, ap length e, length-append tail (10 ∷ rest))
shorter (R tail) rest text e = omega (arith, ap length e, length-append tail (10 ∷ rest))

-- the same of a call that reads the first line
pub read_joins : (r : Result (Line × Bor (List ℕ)) Fault) (text : List ℕ) → line_seen r ≡ cut_line (cut_at 10 text) → Joins (line_seen r) text
read_joins r text e = subst (λ o. Joins o text) (sym e) (cut_joins text (cut_at 10 text) refl)

pub read_shorter : (r : Result (Line × Bor (List ℕ)) Fault) (text : List ℕ) → line_seen r ≡ cut_line (cut_at 10 text) → IfOk r (λ p. length p.1.now < length text)
read_shorter (Err x) text e = tt
read_shorter (Ok p) text e = shorter (parts_of p.0) p.1.now text (read_joins (Ok p) text e)

-- lines counted on from a number
abbrev pub count_from : ℕ → Result ℕ Fault → Result ℕ Fault
count_from n (Ok k) = Ok (n + k)
count_from n (Err e) = Err e

count_after : (k l x : ℕ) (xs : List ℕ) → ((rest : List ℕ) → length rest ≤ length xs → line_count k rest ≡ line_count l rest) → (o : Result (Parts × List ℕ) Fault) → line_of (x ∷ xs) ≡ o → count_on (λ rest. line_count k rest) o ≡ count_on (λ rest. line_count l rest) o
count_after k l x xs same (Err e) w = refl
count_after k l x xs same (Ok p) w =
    let b : length p.1 < suc (length xs) = shorter p.0 p.1 (x ∷ xs) (whole (x ∷ xs) p.0 p.1 w) in
    ap one_more (same p.1 (omega arith))

-- looking for more lines than a text has bytes changes nothing
pub count_enough : (k l : ℕ) (text : List ℕ) → length text ≤ k → length text ≤ l → line_count k text ≡ line_count l text
unfolding line_count
count_enough zero zero text h i = refl
count_enough zero (suc l) [] h i = refl
count_enough (suc k) zero [] h i = refl
count_enough (suc k) (suc l) [] h i = refl
count_enough zero (suc l) (x ∷ xs) h i = absurd (omega arith)
count_enough (suc k) zero (x ∷ xs) h i = absurd (omega arith)
count_enough (suc k) (suc l) (x ∷ xs) h i =
    count_after k l x xs (λ rest le. count_enough k l rest (omega (arith, le)) (omega (arith, le))) (line_of (x ∷ xs)) refl

-- one line on: the result is that of the rest, one more
count_next : (n : ℕ) (o : Result ℕ Fault) → count_from n (one_more o) ≡ count_from (n + 1) o
count_next n (Ok k) = ap Ok (omega arith)
count_next n (Err e) = refl

pub count_line : (n : ℕ) (text : List ℕ) (p : Parts) (rest : List ℕ) → 0 < length text → line_of text ≡ Ok (p, rest) → count_from n (line_count (length text) text) ≡ count_from (n + 1) (line_count (length rest) rest)
unfolding line_count
count_line n [] p rest h e = absurd (omega arith)
count_line n (x ∷ xs) p rest h e =
    let l : length rest < suc (length xs) = shorter p rest (x ∷ xs) (whole (x ∷ xs) p rest e) in
    ap (λ o. count_from n (count_on (λ rest. line_count (length xs) rest) o)) e ∙ count_next n (line_count (length xs) rest)
    ∙ ap (count_from (n + 1)) (count_enough (length xs) (length rest) rest (omega arith) (omega arith))

count_bad : (n : ℕ) (text : List ℕ) (e : Fault) → 0 < length text → line_of text ≡ Err e → count_from n (line_count (length text) text) ≡ Err e
unfolding line_count
count_bad n [] e h w = absurd (omega arith)
count_bad n (x ∷ xs) e h w = ap (λ o. count_from n (count_on (λ rest. line_count (length xs) rest) o)) w

-- the same of a call that reads the next line
module _ (n : ℕ) (text : List ℕ) (o : Option (Result Line Fault)) (rest : List ℕ) (r : ReadsLine text o rest) where
  pub counted_line : (l : Line) → o ≡ Some (Ok l) → (count_from n (line_count (length text) text) ≡ count_from (n + 1) (line_count (length rest) rest)) × (length rest < length text)
  counted_line l e =
      let f = subst (λ x. ReadsLine text x rest) e r in
      (count_line n text (parts_of l) rest f.0 f.1, shorter (parts_of l) rest text (whole text (parts_of l) rest f.1))

  pub counted_bad : (x : Fault) → o ≡ Some (Err x) → count_from n (line_count (length text) text) ≡ Err x
  counted_bad x e =
      let f = subst (λ y. ReadsLine text y rest) e r in
      count_bad n text x f.0 f.1

pub count_start : (o : Result ℕ Fault) → count_from 0 o ≡ o
count_start (Ok k) = ap Ok (omega arith)
count_start (Err e) = refl

pub count_stop : (n : ℕ) (text : List ℕ) → text ≡ [] → count_from n (line_count (length text) text) ≡ Ok n
unfolding line_count
count_stop n text e = rw e (ap Ok (omega arith))
