-- Texts written one after another. Assumes nothing.
use Rattle.std.proofs.Common.{◌≡◌, ℕ, zero, suc, ◌+◌, ◌<◌, ◌≤◌, List, [], ◌∷◌, ◌++◌, map, length, get_or, take, drop, ℤ, pos, negsuc, decimal, sym, refl, ap, ◌∙◌, subst, add_assoc, add-one, arith, w32, SFits, to_z, of_z}
use Rattle.std.specs.Fmt.{signed_decimal}
use Rattle.std.proofs.lemmas.List.{length-take, length-append, take_at, drop_at, drop-drop, append_assoc, append-nil, take_more, length-drop}
use Rattle.std.proofs.lemmas.List.Folds.{length-flat_map-take}
use Rattle.std.proofs.lemmas.List.FromFn.{length-enumerate_from, get_or-enumerate_from}
use Rattle.std.proofs.lemmas.Grind.{flat_map-append}
use Rattle.std.specs.List.{flat_map, enumerate_from}
use Rattle.std.proofs.lemmas.Int.{to_z-of_z}
use Rattle.film.specs.Fields.{tabbed}
use Rattle.film.specs.Leaves.{nonzeros, pair_fields}
use Rattle.film.specs.declared.cursor.Cursor.{Cursor}
use Rattle.film.specs.declared.field.Field.{Field}
use Rattle.film.specs.Texts.{Entry, split, levels, raw, text_of, overwritten, cell_text, Put}
use Rattle.film.specs.Writing.{field_text, tabbed_text, line_text, HasRoom, Puts}

-- what stands before the end of a written text, and what after it
take_overwritten : (at : ℕ) (t xs : List ℕ) → at + length t ≤ length xs → take (at + length t) (overwritten at t xs) ≡ take at xs ++ t
take_overwritten at t xs h =
    let e : (take at xs ++ t) ++ drop (at + length t) xs ≡ overwritten at t xs = append_assoc (take at xs) t (drop (at + length t) xs) in
    ap (take (at + length t)) (sym e) ∙ take_at (take at xs ++ t) (drop (at + length t) xs) (at + length t) (simp (length-append, length-take) (omega arith))

drop_overwritten : (at : ℕ) (t xs : List ℕ) (n : ℕ) → at + length t ≤ length xs → drop (at + length t + n) (overwritten at t xs) ≡ drop (at + length t + n) xs
drop_overwritten at t xs n h =
    let e : (take at xs ++ t) ++ drop (at + length t) xs ≡ overwritten at t xs = append_assoc (take at xs) t (drop (at + length t) xs) in
    sym (drop-drop n (at + length t) (overwritten at t xs)) ∙
    ap (drop n) (ap (drop (at + length t)) (sym e) ∙ drop_at (take at xs ++ t) (drop (at + length t) xs) (at + length t) (simp (length-append, length-take) (omega arith))) ∙
    drop-drop n (at + length t) xs

length_overwritten : (at : ℕ) (t xs : List ℕ) → at + length t ≤ length xs → length (overwritten at t xs) ≡ length xs
length_overwritten at t xs h = simp (length-append, length-take, length-drop) (omega arith)

overwritten_twice : (at : ℕ) (a b xs : List ℕ) → at + length a ≤ length xs → overwritten (at + length a) b (overwritten at a xs) ≡ overwritten at (a ++ b) xs
overwritten_twice at a b xs h =
    rw (take_overwritten at a xs h, drop_overwritten at a xs (length b) h, length-append, append_assoc, append_assoc, add_assoc) refl

-- one text after another
put_then : {at m r : ℕ} {a b xs ys zs : List ℕ} → Put at a xs m ys → Put m b ys r zs → at + length a ≤ length xs → Put at (a ++ b) xs r zs
put_then {at} {m} {r} {a} {b} {xs} {ys} {zs} p q h = record {
  next = omega (arith, p.next, q.next, length-append a b);
  text = q.text ∙ ap (λ y. overwritten m b y) p.text ∙ ap (λ k. overwritten k b (overwritten at a xs)) p.next ∙ overwritten_twice at a b xs h;
}

-- a cursor's texts one after another
pub room_then : {a b : List ℕ} {x y : Cursor} → Puts a x y → HasRoom (a ++ b) x → HasRoom b y
room_then {a} {b} {x} {y} p h = record { room = omega (arith, p.put.next, h.room, length-append a b, ap length p.put.text, length_overwritten x.at a x.out.now (omega (arith, h.room, length-append a b))) }

pub puts_then : {a b : List ℕ} {x y z : Cursor} → Puts a x y → Puts b y z → HasRoom (a ++ b) x → Puts (a ++ b) x z
puts_then {a} {b} {x} {y} {z} p q h = record {
  memory = q.memory ∙ p.memory;
  put = put_then p.put q.put (omega (arith, h.room, length-append a b));
}

-- the same text by another name
pub puts_as : {a b : List ℕ} {x y : Cursor} → a ≡ b → Puts a x y → Puts b x y
puts_as {a} {b} {x} {y} e p = subst (λ t. Puts t x y) e p

pub room_as : {a b : List ℕ} {x : Cursor} → a ≡ b → HasRoom a x → HasRoom b x
room_as {a} {b} {x} e h = subst (λ t. HasRoom t x) e h

-- a sample as a part of its line, and a cell at its place
abbrev pub sample_text : ℕ → List ℕ
sample_text s = 9 ∷ decimal s

abbrev pub placed_text : ℕ × ℤ → List ℕ
placed_text p = cell_text p.0 p.1

-- fields put together, one part for each
pub tabbed_parts : {X : Type 0} (t : X → List ℕ) (xs : List X) (end : List ℕ) → tabbed (map t xs) end ≡ flat_map (λ x. 9 ∷ t x) xs ++ end
tabbed_parts t [] end = refl
tabbed_parts t (x ∷ xs) end = ap (λ ys. 9 ∷ (t x ++ ys)) (tabbed_parts t xs end) ∙ ap (λ ys. 9 ∷ ys) (sym (append_assoc (t x) (flat_map (λ y. 9 ∷ t y) xs) end))

-- one part more, and the room for it
pub parts_more : {X : Type 0} (part : X → List ℕ) (xs : List X) (i : ℕ) (d : X) → i < length xs → flat_map part (take (i + 1) xs) ≡ flat_map part (take i xs) ++ part (get_or xs i d)
parts_more part xs i d h =
    ap (flat_map part) (take_more xs i d h) ∙ flat_map-append part (take i xs) (get_or xs i d ∷ []) ∙ ap (λ t. flat_map part (take i xs) ++ t) (append-nil (part (get_or xs i d)))

pub parts_room : {X : Type 0} (part : X → List ℕ) (xs : List X) (i : ℕ) (d : X) {x y : Cursor} → i < length xs → Puts (flat_map part (take i xs)) x y → HasRoom (flat_map part xs) x → HasRoom (part (get_or xs i d)) y
parts_room part xs i d {x} {y} h p r =
    room_then p (record { room = omega (arith, r.room, length-flat_map-take part xs i d h, length-append (flat_map part (take i xs)) (part (get_or xs i d))) })

pub parts_then : {X : Type 0} (part : X → List ℕ) (xs : List X) (i : ℕ) (d : X) {x y z : Cursor} → i < length xs → Puts (flat_map part (take i xs)) x y → Puts (part (get_or xs i d)) y z → HasRoom (flat_map part xs) x → Puts (flat_map part (take (i + 1) xs)) x z
parts_then part xs i d {x} {y} {z} h p q r =
    puts_as (sym (parts_more part xs i d h))
    (puts_then p q (record { room = omega (arith, r.room, length-flat_map-take part xs i d h, length-append (flat_map part (take i xs)) (part (get_or xs i d))) }))

-- a line is a letter, what stands in it, and its end: the room for each, whatever the letter, and all three
pub line_start : {t : List ℕ} (b l : ℕ) (m : List ℕ) {x : Cursor} → t ≡ l ∷ (m ++ (10 ∷ [])) → HasRoom t x → HasRoom (b ∷ []) x
line_start {t} b l m {x} e h = record { room = omega (arith, h.room, ap length e) }

line_more : {t : List ℕ} (m : List ℕ) {b l : ℕ} {x y : Cursor} → Puts (b ∷ []) x y → t ≡ l ∷ (m ++ (10 ∷ [])) → HasRoom t x → HasRoom (m ++ (10 ∷ [])) y
line_more {t} m {b} {l} {x} {y} p e h = room_then p (record { room = omega (arith, h.room, ap length e) })

pub line_room : {t m : List ℕ} {b l : ℕ} {x y : Cursor} → Puts (b ∷ []) x y → t ≡ l ∷ (m ++ (10 ∷ [])) → HasRoom t x → HasRoom m y
line_room {t} {m} {b} {l} {x} {y} p e h = let r = line_more _ p e h in record { room = omega (arith, r.room, length-append m (10 ∷ [])) }

pub line_end : {t m : List ℕ} {b l : ℕ} {x y z : Cursor} → Puts (b ∷ []) x y → Puts m y z → t ≡ l ∷ (m ++ (10 ∷ [])) → HasRoom t x → HasRoom (10 ∷ []) z
line_end p q e h = room_then q (line_more _ p e h)

pub line_whole : {t m : List ℕ} {l : ℕ} {x y z w : Cursor} → Puts (l ∷ []) x y → Puts m y z → Puts (10 ∷ []) z w → t ≡ l ∷ (m ++ (10 ∷ [])) → HasRoom t x → Puts t x w
line_whole p q r e h = puts_as (sym e) (puts_then p (puts_then q r (line_more _ p e h)) (room_as e h))

pub text_line : (letter : ℕ) (fs : List Field) → line_text letter fs ≡ letter ∷ (flat_map tabbed_text fs ++ (10 ∷ []))
text_line letter fs = ap (λ t. letter ∷ t) (tabbed_parts field_text fs (10 ∷ []))

-- ---- the text of each line, as it is written
pub text_split : text_of split ≡ line_text 83 []
unfolding text_of
text_split = refl

pub text_raw : (ss : List ℕ) → text_of (raw ss) ≡ 82 ∷ (flat_map sample_text ss ++ (10 ∷ []))
unfolding text_of
text_raw ss = ap (λ t. 82 ∷ t) (tabbed_parts decimal ss (10 ∷ []))

-- the two fields of a cell before those of the cells behind it
cell_part : (place level t parts end : List ℕ) → t ≡ parts ++ end → 9 ∷ (place ++ (9 ∷ (level ++ t))) ≡ ((9 ∷ (place ++ (9 ∷ (level ++ [])))) ++ parts) ++ end
cell_part place level t parts end e = rw e (simp (append_assoc, append-nil))

next_cell : (i : ℕ) (zs : List ℤ) (end : List ℕ) → tabbed (pair_fields (nonzeros (suc i) zs)) end ≡ tabbed (pair_fields (nonzeros (i + 1) zs)) end
next_cell i zs end = ap (λ k. tabbed (pair_fields (nonzeros k zs)) end) (sym (add-one i))

cells_parts : (i : ℕ) (zs : List ℤ) (end : List ℕ) → tabbed (pair_fields (nonzeros i zs)) end ≡ flat_map placed_text (enumerate_from i zs) ++ end
cells_parts i [] end = refl
cells_parts i (pos zero ∷ zs) end = next_cell i zs end ∙ cells_parts (i + 1) zs end
cells_parts i (pos (suc n) ∷ zs) end = cell_part (decimal i) (signed_decimal (pos (suc n))) _ _ end (next_cell i zs end ∙ cells_parts (i + 1) zs end)
cells_parts i (negsuc n ∷ zs) end = cell_part (decimal i) (signed_decimal (negsuc n)) _ _ end (next_cell i zs end ∙ cells_parts (i + 1) zs end)

pub text_levels : (zs : List ℤ) → text_of (levels zs) ≡ 84 ∷ (flat_map placed_text (enumerate_from 0 zs) ++ (10 ∷ []))
unfolding text_of
text_levels zs = ap (λ t. 84 ∷ t) (cells_parts 0 zs (10 ∷ []))

-- and its length
length_line : (letter : ℕ) (m : List ℕ) → 2 + length m ≡ length (letter ∷ (m ++ (10 ∷ [])))
length_line letter m = omega (arith, length-append m (10 ∷ []))

pub length_fields : (e : Entry) (letter : ℕ) (fs : List Field) → text_of e ≡ line_text letter fs → 2 + length (flat_map tabbed_text fs) ≡ length (text_of e)
length_fields e letter fs h = length_line letter (flat_map tabbed_text fs) ∙ sym (ap length (h ∙ text_line letter fs))

pub length_raw : (ss : List ℕ) → 2 + length (flat_map sample_text ss) ≡ length (text_of (raw ss))
length_raw ss = length_line 82 (flat_map sample_text ss) ∙ sym (ap length (text_raw ss))

pub length_levels : (zs : List ℤ) → 2 + length (flat_map placed_text (enumerate_from 0 zs)) ≡ length (text_of (levels zs))
length_levels zs = length_line 84 (flat_map placed_text (enumerate_from 0 zs)) ∙ sym (ap length (text_levels zs))

-- one cell, as the loops over a block have it
pub placed_at : (zs : List ℤ) (i : ℕ) → i < length zs → SFits w32 (get_or zs i (pos 0)) → placed_text (get_or (enumerate_from 0 zs) i (0, pos 0)) ≡ cell_text i (to_z w32 (of_z w32 (get_or zs i (pos 0))))
placed_at zs i h f =
    let z = get_or zs i (pos 0) in
    let e : 0 + i ≡ i = omega arith in
    ap placed_text (get_or-enumerate_from 0 zs i (0, pos 0) h) ∙ ap (λ k. cell_text k z) e ∙ ap (cell_text i) (sym (to_z-of_z w32 z f))

pub placed_length : (zs : List ℤ) (i : ℕ) → i < length zs → i < length (enumerate_from 0 zs)
placed_length zs i h = omega (arith, length-enumerate_from 0 zs)
