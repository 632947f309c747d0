-- What is written of the rows under keys.
use Rattle.std.proofs.Common.{◌≡◌, ◌∙◌, ℕ, suc, ◌+◌, ◌<◌, ◌≤◌, ◌^◌, List, [], ◌∷◌, ◌++◌, length, take, drop, get_or, length-take, length-drop, map, filter_map, Option, Some, None, Result, Ok, Err, refl, sym, ap, subst, arith, append_assoc}
use Rattle.std.proofs.lemmas.List.{append-nil, append_cancel_left}
use Rattle.std.proofs.Math.Seq.{take-suc, take-append_seam, drop-append_seam}
use Rattle.std.specs.Str.{IsUtf8, is_utf8}
use Rattle.std.proofs.lemmas.Str.{IsUtf8-from_is_utf8, is_utf8-from_IsUtf8}
use Rattle.std.specs.List.{flat_map, cons_option, AllByRecursion}
use Rattle.sip_text.proofs.Pieces.{some_is}
use Rattle.notifier_model.specs.declared.row.Row.{Row}
use Rattle.notifier_model.specs.declared.place.Place.{Place}
use Rattle.notifier_model.specs.declared.row.Key.{Key}
use Rattle.notifier_model.specs.declared.row.Kept.{Kept}
use Rattle.notifier_model.specs.declared.saved.Saved.{Saved}
use Rattle.snapshots.specs.Forms.{number_text, list_text}
use Rattle.snapshots.specs.Rows.{row_text, IsRow}
use Rattle.snapshots.specs.Books.{saved_text, saved_at, IsSaved, IsKey, IsKept, kept_text, first_line, book_text, IsBook, Reads}
use Rattle.snapshots.specs.declared.book.BookError.{BookError}
use Rattle.snapshots.specs.declared.book.BookError.TheVariants.{NoMemory, OtherVersion, Bad}
use Rattle.snapshots.proofs.Books.{saved_form}
use Rattle.notifier.specs.Keys.{parted, AreTexts}
use Rattle.notifier.specs.Written.{some_text, IsSomeRow, IsReadAs, saved_ledger}
use Rattle.notifier.specs.declared.store.Ledger.{Ledger}
use Rattle.notifier.specs.Ledger.{IsSound}
use Rattle.notifier.specs.Resumed.{MayGoOn}

module _ (f : ℕ → Option Row) where
  abbrev pub texts : List ℕ → List ℕ
  texts keys = flat_map row_text (filter_map f keys)

  last : (o : Option Row) → flat_map row_text (cons_option o []) ≡ some_text o
  last None = refl
  last (Some row) = append-nil (row_text row)

  step : (o : Option Row) (xs ys : List Row) (t : List ℕ) → flat_map row_text xs ≡ flat_map row_text ys ++ t → flat_map row_text (cons_option o xs) ≡ flat_map row_text (cons_option o ys) ++ t
  step None xs ys t e = e
  step (Some row) xs ys t e = ap (λ (l : List ℕ). row_text row ++ l) e ∙ sym (append_assoc (row_text row) (flat_map row_text ys) t)

  push : (keys : List ℕ) (key : ℕ) → texts (keys ++ key ∷ []) ≡ texts keys ++ some_text (f key)
  push [] key = last (f key)
  push (k ∷ keys) key = step (f k) (filter_map f (keys ++ key ∷ [])) (filter_map f keys) (some_text (f key)) (push keys key)

  pub one_more : (keys : List ℕ) (i d : ℕ) → i < length keys → texts (take (i + 1) keys) ≡ texts (take i keys) ++ some_text (f (get_or keys i d))
  one_more keys i d within =
      let next : i + 1 ≡ suc i = omega arith in
      ap texts (ap (λ n. take n keys) next ∙ take-suc keys i d within) ∙ push (take i keys) (get_or keys i d)

  pub of_entries : (entries : List (ℕ × ℕ)) → filter_map f (map (λ e. e.1) entries) ≡ filter_map (λ e. f e.1) entries
  of_entries [] = refl
  of_entries (e ∷ es) = ap (cons_option (f e.1)) (of_entries es)

  pub appended : (before out after : List ℕ) (keys : List ℕ) (i d : ℕ) (o : Option Row) → i < length keys → out ≡ before ++ texts (take i keys) → o ≡ f (get_or keys i d) → after ≡ out ++ some_text o
      → after ≡ before ++ texts (take (i + 1) keys)
  appended before out after keys i d o within so_far is e =
      e ∙ ap (λ (l : List ℕ). l ++ some_text o) so_far ∙ append_assoc before (texts (take i keys)) (some_text o)
      ∙ ap (λ (p : Option Row). before ++ (texts (take i keys) ++ some_text p)) is ∙ ap (λ (l : List ℕ). before ++ l) (sym (one_more keys i d within))

  -- ---- each of them is read again

  last_fits : (o : Option Row) → IsSomeRow o → AllByRecursion IsRow (cons_option o [])
  last_fits None h = tt
  last_fits (Some row) h = (h, tt)

  step_fits : (o : Option Row) (xs ys : List Row) → (AllByRecursion IsRow xs → AllByRecursion IsRow ys) → AllByRecursion IsRow (cons_option o xs) → AllByRecursion IsRow (cons_option o ys)
  step_fits None xs ys more all = more all
  step_fits (Some row) xs ys more all = (all.0, more all.1)

  push_fits : (keys : List ℕ) (key : ℕ) → IsSomeRow (f key) → AllByRecursion IsRow (filter_map f keys) → AllByRecursion IsRow (filter_map f (keys ++ key ∷ []))
  push_fits [] key h all = last_fits (f key) h
  push_fits (k ∷ keys) key h all = step_fits (f k) (filter_map f keys) (filter_map f (keys ++ key ∷ [])) (push_fits keys key h) all

  pub one_more_fits : (keys : List ℕ) (i d : ℕ) (o : Option Row) → i < length keys → o ≡ f (get_or keys i d) → IsSomeRow o
      → AllByRecursion IsRow (filter_map f (take i keys)) → AllByRecursion IsRow (filter_map f (take (i + 1) keys))
  one_more_fits keys i d o within is fits all =
      let next : i + 1 ≡ suc i = omega arith in
      rw (next, take-suc keys i d within) (push_fits (take i keys) (get_or keys i d) (subst IsSomeRow is fits) all)

-- ---- a book is read again

same_text : (a b : Saved) → IsSaved a → IsSaved b → saved_text a ≡ saved_text b → b ≡ a
same_text a b is_a is_b e =
    let read_a : saved_at (saved_text a ++ []) ≡ Some (a, []) = saved_form.again a [] is_a in
    let read_b : saved_at (saved_text b ++ []) ≡ Some (b, []) = saved_form.again b [] is_b in
    let both = sym read_b ∙ ap (λ (t : List ℕ). saved_at (t ++ [])) (sym e) ∙ read_a in
    ap (λ (p : Saved × List ℕ). p.0) (some_is (b, []) (a, []) both)

pub read_again : (book : Saved) → IsSaved book → (read : Result Saved BookError) → Reads read (book_text book) → IsReadAs book read
read_again book fits (Ok read) reads = same_text book read fits reads.is_saved (append_cancel_left first_line (saved_text book) (saved_text read) reads.whole)
read_again book fits (Err NoMemory) reads = tt
read_again book fits (Err OtherVersion) reads = reads book (record { is_saved = fits; whole = refl })
read_again book fits (Err Bad) reads = reads book (record { is_saved = fits; whole = refl })

-- ---- kept answers, one by one

module _ (out after whole : List ℕ) (left rest : List Kept) (kept : Kept) (steps : left ≡ kept ∷ rest) where
  pub kept_more : out ++ flat_map kept_text left ≡ whole → after ≡ out ++ kept_text kept → after ++ flat_map kept_text rest ≡ whole
  kept_more so_far e =
      ap (λ (l : List ℕ). l ++ flat_map kept_text rest) e
      ∙ append_assoc out (kept_text kept) (flat_map kept_text rest)
      ∙ ap (λ (l : List Kept). out ++ flat_map kept_text l) (sym steps)
      ∙ so_far

  pub kept_more_fit : (all : List Kept) → (AllByRecursion IsKept left → AllByRecursion IsKept all) → IsKept kept → AllByRecursion IsKept rest → AllByRecursion IsKept all
  kept_more_fit all so_far fits h = so_far (subst (AllByRecursion IsKept) (sym steps) (fits, h))

module _ (before middle out : List ℕ) (left first items : List Kept) (count : ℕ) (done : left ≡ []) (is : first ≡ items) where
  pub kept_all : out ++ flat_map kept_text left ≡ middle ++ flat_map kept_text first → middle ≡ before ++ number_text count → count ≡ length items
      → out ≡ before ++ list_text kept_text items
  kept_all so_far put counted =
      sym (append-nil out)
      ∙ ap (λ (l : List Kept). out ++ flat_map kept_text l) (sym done)
      ∙ so_far
      ∙ ap (λ (l : List Kept). middle ++ flat_map kept_text l) is
      ∙ ap (λ (m : List ℕ). m ++ flat_map kept_text items) (put ∙ ap (λ (n : ℕ). before ++ number_text n) counted)
      ∙ append_assoc before (number_text (length items)) (flat_map kept_text items)

  pub kept_all_fit : (AllByRecursion IsKept left → AllByRecursion IsKept first) → AllByRecursion IsKept items
  kept_all_fit so_far = subst (AllByRecursion IsKept) is (so_far (subst (AllByRecursion IsKept) (sym done) tt))

-- ---- five parts, one behind the other

pub joined_five : (before v w x y z a b c d e : List ℕ) → a ≡ before ++ v → b ≡ a ++ w → c ≡ b ++ x → d ≡ c ++ y → e ≡ d ++ z
    → e ≡ before ++ (v ++ (w ++ (x ++ (y ++ z))))
joined_five before v w x y z a b c d e of_a of_b of_c of_d of_e =
    of_e ∙ ap (λ (l : List ℕ). l ++ z) (of_d ∙ ap (λ (l : List ℕ). l ++ y) (of_c ∙ ap (λ (l : List ℕ). l ++ x) (of_b ∙ ap (λ (l : List ℕ). l ++ w) of_a)))
    ∙ append_assoc (((before ++ v) ++ w) ++ x) y z
    ∙ append_assoc ((before ++ v) ++ w) x (y ++ z)
    ∙ append_assoc (before ++ v) w (x ++ (y ++ z))
    ∙ append_assoc before v (w ++ (x ++ (y ++ z)))

-- ---- a desk goes on from what is saved of it

pub goes_on : {P : Type 0} (place : Place) (ledger : Ledger P) → IsSound place ledger → length ledger.ring.items ≤ ledger.ring.capacity → MayGoOn place (saved_ledger ledger)
goes_on place ledger sound room = record {
  clock_fits = sound.clock_fits;
  next_begins = sound.next_begins;
  next_fits = sound.next_fits;
  rows_live = sound.rows_live;
  rows_own = sound.rows_own;
  rows_rise = sound.rows_rise;
  ring_fits = (let e = sound.ring_fits in omega (arith, e, room));
}

-- ---- the texts of a key

pub key_fits : (branch sent_by : ℕ) (texts : List ℕ) → length texts < 2 ^ 64 → AreTexts (parted branch sent_by texts) → IsKey (parted branch sent_by texts)
key_fits branch sent_by texts few are = record {
  branch = (omega (arith, length-take branch texts), IsUtf8-from_is_utf8 (take branch texts) are.branch);
  sent_by = (omega (arith, length-take sent_by (drop branch texts), length-drop branch texts), IsUtf8-from_is_utf8 (take sent_by (drop branch texts)) are.sent_by);
  method = (omega (arith, length-drop sent_by (drop branch texts), length-drop branch texts), IsUtf8-from_is_utf8 (drop sent_by (drop branch texts)) are.method);
}

abbrev key : List ℕ → List ℕ → List ℕ → Key
key branch sent_by method = record { branch = branch; sent_by = sent_by; method = method }

same_key : (branch sent_by method b s m : List ℕ) → b ≡ branch → s ≡ sent_by → m ≡ method
    → key b s m ≡ key branch sent_by method
same_key branch sent_by method b s m of_b of_s of_m = rw (of_b, of_s, of_m) refl

pub joined_parts : (branch sent_by method texts : List ℕ) → texts ≡ (branch ++ sent_by) ++ method
    → parted (length branch) (length sent_by) texts ≡ record { branch = branch; sent_by = sent_by; method = method }
joined_parts branch sent_by method texts e =
    let whole = e ∙ append_assoc branch sent_by method in
    let rest = ap (λ (t : List ℕ). drop (length branch) t) whole ∙ drop-append_seam branch (sent_by ++ method) in
    same_key branch sent_by method (take (length branch) texts) (take (length sent_by) (drop (length branch) texts)) (drop (length sent_by) (drop (length branch) texts))
    (ap (λ (t : List ℕ). take (length branch) t) whole ∙ take-append_seam branch (sent_by ++ method))
    (ap (λ (t : List ℕ). take (length sent_by) t) rest ∙ take-append_seam sent_by method)
    (ap (λ (t : List ℕ). drop (length sent_by) t) rest ∙ drop-append_seam sent_by method)

pub texts_of : (key : Key) → IsUtf8 key.branch → IsUtf8 key.sent_by → IsUtf8 key.method → AreTexts key
texts_of key b s m = record { branch = is_utf8-from_IsUtf8 key.branch b; sent_by = is_utf8-from_IsUtf8 key.sent_by s; method = is_utf8-from_IsUtf8 key.method m }
