-- Lines that were written are read back, and lines that are read fix the text. Assumes nothing.
use Rattle.std.proofs.Common.{◌≡◌, ℕ, zero, suc, ◌+◌, ◌<◌, ◌≤◌, Bool, true, ◌&&◌, ltb, List, [], ◌∷◌, ◌++◌, map, length, take, drop, ℤ, pos, negsuc, Some, Ok, Err, decimal, Result, sym, refl, ap, ◌∙◌, subst, inl, inr, arith}
use Rattle.std.specs.Fmt.{signed_decimal}
use Rattle.std.specs.List.{AllByRecursion as All}
use Rattle.film.specs.declared.fault.Fault.{Fault}
use Rattle.film.specs.declared.fault.Fault.TheVariants.{BadLine}
use Rattle.std.proofs.ByRecursion.{All-from_get_or, All-append}
use Rattle.std.proofs.lemmas.List.{append_assoc, drop_at, drop-drop, length-take-le}
use Rattle.std.proofs.lemmas.Bool.{leb-true, ltb-true, and_parts, cases_Bool, cond-true, cond-false}
use Rattle.transform.specs.Meaning.{shorts}
use Rattle.film.specs.declared.standard.Standard.{Standard}
use Rattle.film.specs.declared.standard.Standard.TheVariants.{Hevc, H264, Vc1}
use Rattle.film.specs.Standards.{name_of}
use Rattle.film.specs.Fields.{letter_t, letter_r, cut_at, begun, fields, tabbed}
use Rattle.film.specs.Numbers.{number_in}
use Rattle.film.specs.Leaves.{levels_in, samples_in, if_begun, nonzeros, pair_fields}
use Rattle.film.specs.Lines.{Parts, M, Q, S, T, R, by_letter, with_rest, cut_line, line_of}
use Rattle.film.specs.Texts.{Entry, setting, square, split, levels, raw, letter_of, fields_of, text_of, Put}
use Rattle.film.specs.Films.{Reads, ReadsAt, Film, Alone, ReadsBack, line_count}
use Rattle.film.proofs.Places.{Free, cut_append}
use Rattle.film.proofs.Splits.{parse_by_letter, fields_back, tabbed_end, tabbed_fields, begun_tabbed}
use Rattle.film.proofs.Wholes.{whole, shorter, count_from, count_start, count_line, count_stop}
use Rattle.film.proofs.Numerals.{writes_digit, below_is, below_some}
use Rattle.film.proofs.Pairs.{short_head, levels_back, levels_fields}
use Rattle.film.proofs.Samples.{raw_back, raw_fields}

-- neither a tab nor byte 10
abbrev pub Plain : List ℕ → Type 0
Plain bs = All (λ b. (b ≡ 9 → ⊥) × (b ≡ 10 → ⊥)) bs

-- what a line can say: the values of each that are written and read back
abbrev pub Legal : Entry → Type 0
Legal (setting name step tolerance) = Plain name × (step ≤ 65535) × (tolerance ≤ 65535)
Legal (square column row) = (column ≤ 65535) × (row ≤ 65535)
Legal split = Unit {0}
Legal (levels zs) = (length zs ≤ 65536) × (shorts zs ≡ true)
Legal (raw ss) = All (λ x. x ≤ 255) ss

-- a line's text, with what follows
text_rest : (e : Entry) (rest : List ℕ) → text_of e ++ rest ≡ letter_of e ∷ tabbed (fields_of e) (10 ∷ rest)
unfolding text_of
text_rest e rest =
    ap (λ xs. letter_of e ∷ xs)
    (ap (λ xs. xs ++ rest) (tabbed_end (fields_of e) (10 ∷ [])) ∙ append_assoc (tabbed (fields_of e) []) (10 ∷ []) rest ∙ sym (tabbed_end (fields_of e) (10 ∷ rest)))

-- ---- what is read fixes the text
number_is : (bs : List ℕ) (n : ℕ) → number_in bs ≡ Some n → bs ≡ decimal n
number_is bs n e = (below_is 65536 bs n e).1

-- a block that was read begins as it must, and its fields are those read
begun_ok : {X : Type 0} (tail : List ℕ) (r : Result X Fault) (x : X) → if_begun tail r ≡ Ok x → (begun tail ≡ true) × (r ≡ Ok x)
begun_ok {X} tail r x e =
    elim (cases_Bool (begun tail)) [
      | inl b ↦ (b, sym (cond-true (begun tail) r (Err BadLine) b) ∙ e)
      | inr b ↦ let f : ◌≡◌ {A = Result X Fault} (Err BadLine) (Ok x) = sym (cond-false (begun tail) r (Err BadLine) b) ∙ e in absurd (let z : ◌≡◌ {A = ℕ} 0 1 = cc in omega arith)
    ]

tail_text : (l : ℕ) (tail rest : List ℕ) → begun tail ≡ true → l ∷ (tail ++ (10 ∷ rest)) ≡ l ∷ tabbed (fields tail) (10 ∷ rest)
tail_text l tail rest b = ap (λ xs. l ∷ xs) (ap (λ xs. xs ++ (10 ∷ rest)) (sym (tabbed_fields tail b)) ∙ sym (tabbed_end (fields tail) (10 ∷ rest)))

begun_back : {X : Type 0} (fs : List (List ℕ)) (r : Result X Fault) (x : X) → r ≡ Ok x → if_begun (tabbed fs []) r ≡ Ok x
begun_back fs r x e = cond-true (begun (tabbed fs [])) r (Err BadLine) (begun_tabbed fs) ∙ e

pub text_is : (e : Entry) (text rest : List ℕ) → Reads e text rest → text ≡ text_of e ++ rest
text_is (setting name step tolerance) text rest p =
    sym (text_rest (setting name step tolerance) rest
    ∙ sym (ap (λ a. 77 ∷ tabbed (name ∷ a ∷ p.1 ∷ []) (10 ∷ rest)) (number_is p.0 step p.3) ∙ ap (λ b. 77 ∷ tabbed (name ∷ decimal step ∷ b ∷ []) (10 ∷ rest)) (number_is p.1 tolerance p.4))
    ∙ whole text (M name p.0 p.1) rest p.2)
text_is (square column row) text rest p =
    sym (text_rest (square column row) rest
    ∙ sym (ap (λ a. 81 ∷ tabbed (a ∷ p.1 ∷ []) (10 ∷ rest)) (number_is p.0 column p.3) ∙ ap (λ b. 81 ∷ tabbed (decimal column ∷ b ∷ []) (10 ∷ rest)) (number_is p.1 row p.4))
    ∙ whole text (Q p.0 p.1) rest p.2)
text_is split text rest p = sym (text_rest split rest ∙ whole text S rest p)
text_is (levels zs) text rest p =
    let b = begun_ok p.0 (levels_in (length zs) (fields p.0)) zs p.2 in
    sym (text_rest (levels zs) rest ∙ sym (tail_text letter_t p.0 rest b.0 ∙ ap (λ fs. letter_t ∷ tabbed fs (10 ∷ rest)) (levels_fields (length zs) (fields p.0) zs b.1)) ∙ whole text (T p.0) rest p.1)
text_is (raw ss) text rest p =
    let b = begun_ok p.0 (samples_in (length ss) (fields p.0)) ss p.2 in
    sym (text_rest (raw ss) rest ∙ sym (tail_text letter_r p.0 rest b.0 ∙ ap (λ fs. letter_r ∷ tabbed fs (10 ∷ rest)) (raw_fields (length ss) (fields p.0) ss b.1)) ∙ whole text (R p.0) rest p.1)

one_film : (es : List Entry) (text other : List ℕ) → Film es text → Film es other → other ≡ text
one_film [] text other p w = w ∙ sym p
one_film (e ∷ es) text other p w =
    text_is e other w.0 w.1 ∙ ap (λ rest. text_of e ++ rest) (one_film es p.0 w.0 p.2 w.2) ∙ sym (text_is e text p.0 p.1)

-- no other text has the same lines
pub alone : (text : List ℕ) → Alone text
alone text es other p w = one_film es text other p w

-- ---- what was written is read back
decimal_free : (b n : ℕ) → b < 48 → n < 65536 → Free b (decimal n)
decimal_free b n h k = All-from_get_or (λ x. x ≡ b → ⊥) (decimal n) 0 (λ i l e. omega (arith, e, (writes_digit (decimal n) n k refl i l).0))

signed_free : (b : ℕ) (z : ℤ) (zs : List ℤ) → b < 45 → shorts (z ∷ zs) ≡ true → Free b (signed_decimal z)
signed_free b (pos n) zs h k = decimal_free b n (omega arith) (omega (arith, leb-true n 32767 (short_head (pos n) zs k).1))
signed_free b (negsuc n) zs h k = ((λ e. omega (arith, e)), decimal_free b (suc n) (omega arith) (omega (arith, leb-true n 32767 (short_head (negsuc n) zs k).0)))

pairs_free : (b i : ℕ) (zs : List ℤ) → b < 45 → i + length zs ≤ 65536 → shorts zs ≡ true → All (Free b) (pair_fields (nonzeros i zs))
pairs_free b i [] h l k = tt
pairs_free b i (pos zero ∷ zs) h l k = pairs_free b (suc i) zs h (omega arith) (short_head (pos zero) zs k).2
pairs_free b i (pos (suc n) ∷ zs) h l k =
    (decimal_free b i (omega arith) (omega arith), (signed_free b (pos (suc n)) zs h k, pairs_free b (suc i) zs h (omega arith) (short_head (pos (suc n)) zs k).2))
pairs_free b i (negsuc n ∷ zs) h l k =
    (decimal_free b i (omega arith) (omega arith), (signed_free b (negsuc n) zs h k, pairs_free b (suc i) zs h (omega arith) (short_head (negsuc n) zs k).2))

samples_free : (b : ℕ) (ss : List ℕ) → b < 45 → All (λ x. x ≤ 255) ss → All (Free b) (map decimal ss)
samples_free b [] h k = tt
samples_free b (x ∷ ss) h k = (decimal_free b x (omega arith) (omega (arith, k.0)), samples_free b ss h k.1)

fields_free : (b : ℕ) → b < 45 → ((bs : List ℕ) → Plain bs → Free b bs) → (e : Entry) → Legal e → All (Free b) (fields_of e)
fields_free b h plain (setting name step tolerance) l =
    (plain name l.0, (decimal_free b step (omega arith) (omega (arith, l.1)), (decimal_free b tolerance (omega arith) (omega (arith, l.2)), tt)))
fields_free b h plain (square column row) l = (decimal_free b column (omega arith) (omega (arith, l.0)), (decimal_free b row (omega arith) (omega (arith, l.1)), tt))
fields_free b h plain split l = tt
fields_free b h plain (levels zs) l = pairs_free b 0 zs h (omega (arith, l.0)) l.1
fields_free b h plain (raw ss) l = samples_free b ss h l

no_tab : (bs : List ℕ) → Plain bs → Free 9 bs
no_tab [] h = tt
no_tab (x ∷ xs) h = (h.0.0, no_tab xs h.1)

no_newline : (bs : List ℕ) → Plain bs → Free 10 bs
no_newline [] h = tt
no_newline (x ∷ xs) h = (h.0.1, no_newline xs h.1)

tabbed_free : (fs : List (List ℕ)) → All (Free 10) fs → Free 10 (tabbed fs [])
tabbed_free [] h = tt
tabbed_free (f ∷ fs) h = ((λ e. omega (arith, e)), All-append (λ x. x ≡ 10 → ⊥) f (tabbed fs []) h.0 (tabbed_free fs h.1))

-- a letter and fields are read back to them
line_back : (l : ℕ) (fs : List (List ℕ)) (rest : List ℕ) → (l ≡ 10 → ⊥) → All (Free 9) fs → All (Free 10) fs → line_of (l ∷ tabbed fs (10 ∷ rest)) ≡ with_rest rest (by_letter l (tabbed fs []) fs)
unfolding line_of
line_back l fs rest newline f9 f10 =
    let line : List ℕ = l ∷ tabbed fs [] in
    let free : Free 10 line = (newline, tabbed_free fs f10) in
    ap (λ xs. cut_line (cut_at 10 (l ∷ xs))) (tabbed_end fs (10 ∷ rest)) ∙ ap cut_line (cut_append 10 line rest free)
    ∙ ap (with_rest rest) (parse_by_letter l (tabbed fs []) ∙ cond-true _ _ _ (begun_tabbed fs) ∙ ap (by_letter l (tabbed fs [])) (fields_back fs f9))

letter_newline : (e : Entry) → letter_of e ≡ 10 → ⊥
letter_newline (setting name step tolerance) h = omega (arith, h)
letter_newline (square column row) h = omega (arith, h)
letter_newline split h = omega (arith, h)
letter_newline (levels zs) h = omega (arith, h)
letter_newline (raw ss) h = omega (arith, h)

entry_back : (e : Entry) → Legal e → (rest : List ℕ) → line_of (text_of e ++ rest) ≡ with_rest rest (by_letter (letter_of e) (tabbed (fields_of e) []) (fields_of e))
entry_back e l rest =
    ap line_of (text_rest e rest) ∙ line_back (letter_of e) (fields_of e) rest (letter_newline e) (fields_free 9 (omega arith) no_tab e l) (fields_free 10 (omega arith) no_newline e l)

number_back : (n : ℕ) → n ≤ 65535 → number_in (decimal n) ≡ Some n
number_back n h = sym (below_some 65536 (decimal n) n (omega arith) (omega arith) refl)

-- every line with legal values is read back, whatever follows it
pub reads_back : (e : Entry) → Legal e → ReadsBack e
reads_back (setting name step tolerance) l rest =
    (decimal step, decimal tolerance, entry_back (setting name step tolerance) l rest, number_back step l.1, number_back tolerance l.2)
reads_back (square column row) l rest = (decimal column, decimal row, entry_back (square column row) l rest, number_back column l.0, number_back row l.1)
reads_back split l rest = entry_back split l rest
reads_back (levels zs) l rest =
    let fs = pair_fields (nonzeros 0 zs) in (
      tabbed fs [],
      entry_back (levels zs) l rest,
      begun_back fs (levels_in (length zs) (fields (tabbed fs []))) zs
          (ap (levels_in (length zs)) (fields_back fs (pairs_free 9 0 zs (omega arith) (omega (arith, l.0)) l.1)) ∙ levels_back zs l.0 l.1),
    )
reads_back (raw ss) l rest =
    let fs = map decimal ss in (
      tabbed fs [],
      entry_back (raw ss) l rest,
      begun_back fs (samples_in (length ss) (fields (tabbed fs []))) ss
          (ap (samples_in (length ss)) (fields_back fs (samples_free 9 ss (omega arith) l)) ∙ raw_back ss l),
    )

-- also where the line stands in a memory
pub found_at : (e : Entry) (at r : ℕ) (xs ys : List ℕ) → Put at (text_of e) xs r ys → at + length (text_of e) ≤ length xs → ReadsBack e → ReadsAt e at r ys
found_at e at r xs ys p room back =
    let rest = drop (at + length (text_of e)) xs in
    let front : length (take at xs) ≡ at = length-take-le at xs (omega arith) in
    let here : drop at ys ≡ text_of e ++ rest = ap (drop at) p.text ∙ drop_at (take at xs) (text_of e ++ rest) at front in
    let behind : drop r ys ≡ rest =
    ap (λ k. drop k ys) p.next ∙ sym (drop-drop (length (text_of e)) at ys) ∙ ap (drop (length (text_of e))) here ∙ drop_at (text_of e) rest (length (text_of e)) refl in
    subst (λ t. Reads e (drop at ys) t) (sym behind) (subst (λ t. Reads e t rest) (sym here) (back rest))

-- the lines of a text are counted
reads_line : (e : Entry) (text rest : List ℕ) → Reads e text rest → (p : Parts) × (line_of text ≡ Ok (p, rest))
reads_line (setting name step tolerance) text rest h = (M name h.0 h.1, h.2)
reads_line (square column row) text rest h = (Q h.0 h.1, h.2)
reads_line split text rest h = (S, h)
reads_line (levels zs) text rest h = (T h.0, h.1)
reads_line (raw ss) text rest h = (R h.0, h.1)

pub film_count : (text : List ℕ) (es : List Entry) → Film es text → line_count (length text) text ≡ Ok (length es)
film_count text [] h = sym (count_start (line_count (length text) text)) ∙ count_stop 0 text h
film_count text (e ∷ es) h =
    let l = reads_line e text h.0 h.1 in
    let w = shorter l.0 h.0 text (whole text l.0 h.0 l.1) in
    sym (count_start (line_count (length text) text)) ∙ count_line 0 text l.0 h.0 (omega (arith, w)) l.1
    ∙ ap (count_from (0 + 1)) (film_count h.0 es h.2) ∙ ap Ok (omega arith)

abbrev plain_by : List ℕ → Bool
plain_by [] = true
plain_by (x ∷ xs) = ltb 10 x && plain_by xs

plain_from : (bs : List ℕ) → plain_by bs ≡ true → Plain bs
plain_from [] h = tt
plain_from (x ∷ xs) h =
    let p = and_parts (ltb 10 x) (plain_by xs) h in
    let b = ltb-true 10 x p.0 in
    (((λ e. omega (arith, e)), (λ e. omega (arith, e))), plain_from xs p.1)

-- a name of a standard has neither a tab nor byte 10
pub name_plain : (k : Standard) → Plain (name_of k)
name_plain Hevc = plain_from (name_of Hevc) refl
name_plain H264 = plain_from (name_of H264) refl
name_plain Vc1 = plain_from (name_of Vc1) refl
