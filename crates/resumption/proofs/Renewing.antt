-- Desks that go on as they are wished, one behind the other.
use Rattle.std.proofs.Common.{◌≡◌, ◌∙◌, ℕ, ◌+◌, ◌<◌, List, [], ◌∷◌, ◌++◌, Bool, length, map, take, Option, Some, None, option_map, refl, sym, ap, append_assoc, arith}
use Rattle.std.specs.Prelude.{max, slice_get}
use Rattle.std.specs.List.{flat_map, enumerate_from, zip}
use Rattle.std.proofs.lemmas.List.{length-take-le, length-map, length_push, append-nil, map-append}
use Rattle.std.proofs.lemmas.List.Concat.{flat_map-append}
use Rattle.std.proofs.lemmas.List.Sums.{fold-append}
use Rattle.std.proofs.lemmas.Option.{slice_get_within}
use Rattle.package.specs.Content.{Seen, finite_maps}
use Rattle.notifier_model.specs.declared.event.Out.{Out}
use Rattle.notifier_model.specs.declared.saved.Saved.{Saved}
use Rattle.notifier_model.specs.Rows.{Telling}
use Rattle.notifier_model.specs.Saved.{book_with}
use Rattle.notifier_model.specs.Start.{place_of}
use Rattle.notifier.specs.Standing.{Standing}
use Rattle.notifier.specs.Written.{saved_of}
use Rattle.journal.specs.declared.record.Told.{Told}
use Rattle.keeper.specs.Told.{Kept, told_of}
use Rattle.resumption.specs.declared.changed.Wish.{Wish}
use Rattle.resumption.specs.Told.{mails}
use Rattle.resumption.specs.Changed.{names_now, boxes_now, telling_now, part, part_outs, with_room, carried, carried_from, carried_outs, told_since, all_carried, all_carried_outs, all_told_since, all_mails, most_events, most_mails}
use Rattle.resumption.proofs.Lists.{flat_push, each_push, zip_push, length-zip, take_got}

-- the worker that is found
pub record IsKept (kept : List Kept) (n : ℕ) (told : Told) : Type 0 where
  it : Kept
  there : slice_get kept n ≡ Some it
  its_told : told_of it ≡ told

pub found : (kept : List Kept) (n : ℕ) (told : Told) → option_map told_of (slice_get kept n) ≡ Some told → IsKept kept n told
found kept n told e = step (slice_get kept n) refl e where
  step : (o : Option Kept) → slice_get kept n ≡ o → option_map told_of o ≡ Some told → IsKept kept n told
  step None is e = absurd cc
  step (Some k) is e = record { it = k; there = is; its_told = cc }

module _ (wish : Wish) (is_lost : Bool) (kept : List Kept) (done : List (Option Standing)) (d : Option Standing) (told : Told) (worker : ℕ) (same : worker ≡ length done) (has : IsKept kept worker told) where
  there : slice_get kept (length done) ≡ Some has.it
  there = ap (slice_get kept) (sym same) ∙ has.there

  many : worker ≡ length (zip done kept)
  many = same ∙ sym (length-zip done kept has.it there)

  pub carried_more : all_carried wish is_lost (done ++ d ∷ []) kept ≡ all_carried wish is_lost done kept ++ carried wish worker told is_lost d ∷ []
  carried_more =
      ap (λ (l : List (Option Standing × Kept)). map (λ n. carried wish n.0 (told_of n.1.1) is_lost n.1.0) (enumerate_from 0 l)) (zip_push done d kept has.it there)
      ∙ each_push (λ n. carried wish n.0 (told_of n.1.1) is_lost n.1.0) (zip done kept) (d, has.it) worker many
      ∙ ap (λ (t : Told). all_carried wish is_lost done kept ++ carried wish worker t is_lost d ∷ []) has.its_told

  pub outs_more : all_carried_outs wish is_lost (done ++ d ∷ []) kept ≡ all_carried_outs wish is_lost done kept ++ carried_outs wish worker told is_lost d
  outs_more =
      ap (λ (l : List (Option Standing × Kept)). flat_map (λ n. carried_outs wish n.0 (told_of n.1.1) is_lost n.1.0) (enumerate_from 0 l)) (zip_push done d kept has.it there)
      ∙ flat_push (λ n. carried_outs wish n.0 (told_of n.1.1) is_lost n.1.0) (zip done kept) (d, has.it) worker many
      ∙ ap (λ (t : Told). all_carried_outs wish is_lost done kept ++ carried_outs wish worker t is_lost d) has.its_told

-- what is told to one worker more
pub told_more : (wish : Wish) (kept : List Kept) (n : ℕ) (told : Told) → IsKept kept n told
    → all_told_since wish (n + 1) kept ≡ all_told_since wish n kept ++ told_since (names_now wish n) told ∷ []
told_more wish kept n told has =
    let first = take n kept in
    let within : n < length kept = slice_get_within kept n has.it has.there in
    let many : n ≡ length first = sym (length-take-le n kept (omega arith)) in
    ap (λ (l : List Kept). map (λ m. told_since (names_now wish m.0) (told_of m.1)) (enumerate_from 0 l)) (take_got n kept has.it has.there)
    ∙ each_push (λ m. told_since (names_now wish m.0) (told_of m.1)) first has.it n many
    ∙ ap (λ (t : Told). all_told_since wish n kept ++ told_since (names_now wish n) t ∷ []) has.its_told

pub many_next : {D : Type 0} (seen : D → Option Standing) (desks after done : List D) (o : Option Standing) (d : D) → length desks ≡ length done
    → map seen after ≡ map seen desks ++ o ∷ [] → length after ≡ length (done ++ d ∷ [])
many_next seen desks after done o d held new =
    sym (length-map after seen)
    ∙ ap length new
    ∙ length_push (map seen desks) o
    ∙ ap (λ (n : ℕ). n + 1) (length-map desks seen ∙ held)
    ∙ sym (length_push done d)

-- where desks are seen so, and one is added
module _ {D : Type 0} (seen : D → Option Standing) (wish : Wish) (is_lost : Bool) (kept : List Kept) (done : List D) (d : D) (told : Told) (worker : ℕ) (same : worker ≡ length done) (has : IsKept kept worker told) where
  abbrev stood_so : List (Option Standing)
  stood_so = map seen done

  many_so : worker ≡ length stood_so
  many_so = same ∙ sym (length-map done seen)

  pub stands_next : (so_far after : List (Option Standing)) → so_far ≡ all_carried wish is_lost stood_so kept → after ≡ so_far ++ carried wish worker told is_lost (seen d) ∷ []
      → after ≡ all_carried wish is_lost (map seen (done ++ d ∷ [])) kept
  stands_next so_far after held new =
      new
      ∙ ap (λ (l : List (Option Standing)). l ++ carried wish worker told is_lost (seen d) ∷ []) held
      ∙ sym (carried_more wish is_lost kept stood_so (seen d) told worker many_so has)
      ∙ ap (λ (l : List (Option Standing)). all_carried wish is_lost l kept) (sym (map-append seen done (d ∷ [])))

  pub first_next : (first so_far after : List Out) → so_far ≡ first ++ all_carried_outs wish is_lost stood_so kept → after ≡ so_far ++ carried_outs wish worker told is_lost (seen d)
      → after ≡ first ++ all_carried_outs wish is_lost (map seen (done ++ d ∷ [])) kept
  first_next first so_far after held new =
      new
      ∙ ap (λ (l : List Out). l ++ carried_outs wish worker told is_lost (seen d)) held
      ∙ append_assoc first (all_carried_outs wish is_lost stood_so kept) (carried_outs wish worker told is_lost (seen d))
      ∙ ap (λ (l : List Out). first ++ l)
      (sym (outs_more wish is_lost kept stood_so (seen d) told worker many_so has)
      ∙ ap (λ (l : List (Option Standing)). all_carried_outs wish is_lost l kept) (sym (map-append seen done (d ∷ []))))

  pub told_next : (so_far after : List Told) → so_far ≡ all_told_since wish (length done) kept → after ≡ so_far ++ told_since (names_now wish worker) told ∷ []
      → after ≡ all_told_since wish (length (done ++ d ∷ [])) kept
  told_next so_far after held new =
      let next : worker + 1 ≡ length (done ++ d ∷ []) = ap (λ (n : ℕ). n + 1) same ∙ sym (length_push done d) in
      new
      ∙ ap (λ (l : List Told). l ++ told_since (names_now wish worker) told ∷ []) held
      ∙ ap (λ (n : ℕ). all_told_since wish n kept ++ told_since (names_now wish worker) told ∷ []) (sym same)
      ∙ sym (told_more wish kept worker told has)
      ∙ ap (λ (n : ℕ). all_told_since wish n kept) next

-- ---- one desk

-- a desk of which a book was saved stood so
pub record Stood (o : Option Standing) (book : Saved) : Type 0 where
  pub it : Standing
  pub there : o ≡ Some it
  pub its_book : saved_of it.book ≡ book

pub stood : (o : Option Standing) (book : Saved) → option_map (λ (s : Standing). saved_of s.book) o ≡ Some book → Stood o book
stood None book e = absurd cc
stood (Some s) book e = record { it = s; there = refl; its_book = cc }

module _ (wish : Wish) (worker : ℕ) (told : Told) (is_lost : Bool) (o : Option Standing) (book : Saved) (boxes : List Seen) (was : Stood o book) (boxes_are : boxes ≡ boxes_now wish worker told book) where
  abbrev standing : Saved → List Seen → Standing
  standing b bs = record { place = place_of wish.work.now.setup worker; book = book_with b bs }

  abbrev telling : List Seen → Telling finite_maps
  telling bs = record { place = place_of wish.work.now.setup worker; boxes = bs; clock = book.clock }

  pub carried_there : (parted room : Saved) → parted ≡ part is_lost boxes book → room ≡ with_room wish.work.now.setup.limits.kept parted
      → Some (standing room boxes) ≡ carried wish worker told is_lost o
  carried_there parted room parted_is room_is =
      ap (λ (b : Saved). Some (standing b boxes)) (room_is ∙ ap (with_room wish.work.now.setup.limits.kept) parted_is)
      ∙ ap (λ (bs : List Seen). Some (standing (with_room wish.work.now.setup.limits.kept (part is_lost bs book)) bs)) boxes_are
      ∙ ap (λ (b : Saved). Some (carried_from wish worker told is_lost b)) (sym was.its_book)
      ∙ ap (carried wish worker told is_lost) (sym was.there)

  pub outs_there : (outs : List Out) → outs ≡ part_outs is_lost (telling boxes) book → outs ≡ carried_outs wish worker told is_lost o
  outs_there outs are =
      are
      ∙ ap (λ (bs : List Seen). part_outs is_lost (telling bs) book) boxes_are
      ∙ ap (λ (b : Saved). part_outs is_lost (telling_now wish worker told b) b) (sym was.its_book)
      ∙ ap (carried_outs wish worker told is_lost) (sym was.there)

-- ---- what all were told

module _ (kept : List Kept) (n : ℕ) (told : Told) (has : IsKept kept n told) where
  pub mails_more : all_mails (take (n + 1) kept) ≡ all_mails (take n kept) ++ mails told.mail
  mails_more =
      ap all_mails (take_got n kept has.it has.there)
      ∙ flat_map-append (λ (k : Kept). mails (told_of k).mail) (take n kept) (has.it ∷ [])
      ∙ ap (λ l. all_mails (take n kept) ++ l) (append-nil (mails (told_of has.it).mail) ∙ ap (λ (t : Told). mails t.mail) has.its_told)

  pub events_more : most_events (take (n + 1) kept) ≡ max told.events (most_events (take n kept))
  events_more =
      ap most_events (take_got n kept has.it has.there)
      ∙ fold-append (λ m (k : Kept). max k.events m) 0 (take n kept) (has.it ∷ [])
      ∙ ap (λ (t : Told). max t.events (most_events (take n kept))) has.its_told

  pub most_mails_more : most_mails (take (n + 1) kept) ≡ max told.mails (most_mails (take n kept))
  most_mails_more =
      ap most_mails (take_got n kept has.it has.there)
      ∙ fold-append (λ m (k : Kept). max k.mails m) 0 (take n kept) (has.it ∷ [])
      ∙ ap (λ (t : Told). max t.mails (most_mails (take n kept))) has.its_told
