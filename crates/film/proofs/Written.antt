-- What each writer promises of its line, while a cursor still holds the memory. Assumes nothing.
use Rattle.std.proofs.Common.{◌≡◌, ℕ, List, sym}
use Rattle.film.specs.declared.cursor.Cursor.{Cursor}
use Rattle.film.specs.Texts.{Entry, text_of, Put}
use Rattle.film.specs.Writing.{HasRoom, Puts}
use Rattle.film.specs.Films.{ReadsAt, ReadsBack}
use Rattle.film.proofs.Trips.{Legal, reads_back, found_at}
use Rattle.film.proofs.Writes.{puts_as}

pub record IsWritten (e : Entry) (x y : Cursor) : Type 0 where
  pub put : Put x.at (text_of e) x.out.now y.at y.out.now
  pub back : ReadsBack e
  pub found : ReadsAt e x.at y.at y.out.now

pub is_written : (e : Entry) {t : List ℕ} {x y : Cursor} → Puts t x y → text_of e ≡ t → Legal e → HasRoom (text_of e) x → IsWritten e x y
is_written e {t} {x} {y} p same legal h =
    let q : Puts (text_of e) x y = puts_as (sym same) p in
    let back : ReadsBack e = reads_back e legal in
    record { put = q.put; back = back; found = found_at e x.at y.at x.out.now y.out.now q.put h.room back }
