-- Rows that live all the time while others begin, change and end.
use Rattle.std.proofs.Common.{◌≡◌, ◌≢◌, ◌≤◌, ◌<◌, ◌+◌, ◌-◌, ℕ, zero, suc, min, List, [], ◌∷◌, ◌++◌, length, Bool, true, false, cond, not, ◌&&◌, ◌==◌, Option, Some, None, inl, inr, refl, sym, ap, ◌∙◌, subst, arith, nat_lt, slice_get, get_or, take, set, append_assoc}
use Rattle.std.specs.Prelude.{◌⊎◌, nat_le, is_some, bytes_eq, position}
use Rattle.std.specs.List.{swap_remove, AllByRecursion}
use Rattle.std.specs.Option.{option_map_or}
use Rattle.std.proofs.lemmas.Bool.{cases_eq, le-leb}
use Rattle.std.proofs.lemmas.List.{length-set, length-take, get_or-take, get_or-set_same, get_or-set_other}
use Rattle.std.proofs.lemmas.List.Quantifiers.{position-Some}
use Rattle.std.proofs.lemmas.Option.{slice_get_within, slice_get-get_or, get_or_from_slice_get}
use Rattle.std.proofs.lemmas.Slice.Eq.{bytes_eq-Decides}
use Rattle.sip_text.specs.declared.address.Addr.{Addr}
use Rattle.watchers.specs.declared.page.TheConstants.{LOOKS, ROW}
use Rattle.watchers.specs.declared.row.Watcher.{Watcher}
use Rattle.watchers.specs.declared.watchers.TheConstants.{FINAL, GONE}
use Rattle.watchers.specs.Notifies.{Known, until, first_row}
use Rattle.watchers.specs.Rows.{Row, found, has, changed, renewed, retargeted, answered, was_sent, without}
use Rattle.watchers.specs.Notifies as notifies
use Rattle.watchers.specs.Pages.{Page, row_text, is_wanted, with_line, with_row, goes_on, after_look, after_looks, beginning, page}
use Rattle.watchers.specs.Readings.{Change, Notify, Retarget, End, Answer, after, after_all, may_end, Turn, AllSpare, Lives, page_at, AreRead, HasLine, Tells, IsTold}

-- ---- a row keeps its place, or comes to an earlier one

-- a row with this tag stands here
pub record Stands (tag : List ℕ) (rows : List Row) : Type 0 where
  pub place : ℕ
  pub row : Watcher
  pub is : slice_get rows place ≡ Some (tag, row)

-- it stands at this place or before it
pub record Stays (tag : List ℕ) (low : ℕ) (rows : List Row) : Type 0 where
  pub place : ℕ
  pub row : Watcher
  pub is : slice_get rows place ≡ Some (tag, row)
  pub low_enough : place ≤ low

abbrev tag_or_none : Option Row → List ℕ
tag_or_none None = []
tag_or_none (Some row) = row.0

stands : (tag : List ℕ) (rows : List Row) → has tag rows ≡ true → Stands tag rows
stands tag [] e = absurd cc
stands tag (row ∷ rows) e = step (bytes_eq tag row.0) refl (stands tag rows) e where
  step : (b : Bool) → bytes_eq tag row.0 ≡ b → (has tag rows ≡ true → Stands tag rows) → is_some (cond b (Some row.1) (found tag rows)) ≡ true → Stands tag (row ∷ rows)
  step true same rest k = record {
    place = 0;
    row = row.1;
    is = ap (λ (t : List ℕ). let r : Row = (t, row.1) in Some r) (sym ((bytes_eq-Decides tag row.0).0 same));
  }
  step false other rest k = let h = rest k in record { place = suc h.place; row = h.row; is = h.is }

more_behind : (rows more : List Row) (k : ℕ) (r : Row) → slice_get rows k ≡ Some r → slice_get (rows ++ more) k ≡ Some r
more_behind [] more k r e = absurd cc
more_behind (x ∷ rows) more zero r e = e
more_behind (x ∷ rows) more (suc k) r e = more_behind rows more k r e

one_changed : (other tag : List ℕ) (f : Watcher → Watcher) (rows : List Row) (k : ℕ) (w : Watcher) → slice_get rows k ≡ Some (tag, w)
    → (w' : Watcher) × (slice_get (changed other f rows) k ≡ Some (tag, w'))
one_changed other tag f [] k w e = absurd cc
one_changed other tag f (x ∷ rows) zero w e = step (bytes_eq other x.0) where
  step : (b : Bool) → (w' : Watcher) × (slice_get (cond b ((x.0, f x.1) ∷ rows) (x ∷ changed other f rows)) 0 ≡ Some (tag, w'))
  step true = (f x.1, ap (λ (t : List ℕ). let r : Row = (t, f x.1) in Some r) (ap tag_or_none e))
  step false = (w, e)
one_changed other tag f (x ∷ rows) (suc k) w e = step (bytes_eq other x.0) (one_changed other tag f rows k w e) where
  step : (b : Bool) → (w' : Watcher) × (slice_get (changed other f rows) k ≡ Some (tag, w')) → (w' : Watcher) × (slice_get (cond b ((x.0, f x.1) ∷ rows) (x ∷ changed other f rows)) (suc k) ≡ Some (tag, w'))
  step true rest = (w, e)
  step false rest = rest

-- another one goes, and the last takes its place
swap_keeps : (rows : List Row) (i k : ℕ) (d r : Row) → i < length rows → i ≢ k → slice_get rows k ≡ Some r
    → (j : ℕ) × (j ≤ k) × (slice_get (swap_remove rows i d) j ≡ Some r)
swap_keeps rows i k d r here apart is = elim (cases_eq k (length rows - 1)) [ inl same ↦ last_one same | inr other ↦ kept other ] where
  within : k < length rows
  within = slice_get_within rows k r is

  at : (j : ℕ) → j < length rows - 1 → slice_get (swap_remove rows i d) j ≡ Some (get_or (set rows i (get_or rows (length rows - 1) d)) j d)
  at j less =
      let now = set rows i (get_or rows (length rows - 1) d) in
      let long : length (take (length rows - 1) now) ≡ length rows - 1 =
      (let a = length-take (length rows - 1) now in let b = length-set rows i (get_or rows (length rows - 1) d) in omega (arith, a, b)) in
      slice_get-get_or (take (length rows - 1) now) j d (omega (arith, long, less))
      ∙ ap (λ (x : Row). Some x) (get_or-take (length rows - 1) now j d less)

  kept : k ≢ length rows - 1 → (j : ℕ) × (j ≤ k) × (slice_get (swap_remove rows i d) j ≡ Some r)
  kept other = (
    k,
    omega arith,
    at k (omega (arith, within, other))
        ∙ ap (λ (x : Row). Some x) (get_or-set_other rows i k (get_or rows (length rows - 1) d) d (λ e. apart (sym e)) ∙ get_or_from_slice_get rows k r d is),
  )

  last_one : k ≡ length rows - 1 → (j : ℕ) × (j ≤ k) × (slice_get (swap_remove rows i d) j ≡ Some r)
  last_one same = (
    i,
    omega (arith, here, same),
    at i (omega (arith, here, apart, same))
        ∙ ap (λ (x : Row). Some x) (get_or-set_same rows i (get_or rows (length rows - 1) d) d here
        ∙ ap (λ (m : ℕ). get_or rows m d) (sym same) ∙ get_or_from_slice_get rows k r d is),
  )

one_gone : (other tag : List ℕ) (rows : List Row) (k : ℕ) (w : Watcher) → slice_get rows k ≡ Some (tag, w) → bytes_eq other tag ≡ false → Stays tag k (without other rows)
one_gone other tag [] k w e apart = absurd cc
one_gone other tag (x ∷ xs) k w e apart = step (position (λ (row : Row). bytes_eq other row.0) (x ∷ xs)) refl where
  clash : false ≡ true → ⊥
  clash h = absurd cc

  step : (p : Option ℕ) → position (λ (row : Row). bytes_eq other row.0) (x ∷ xs) ≡ p → Stays tag k (option_map_or (λ i. swap_remove (x ∷ xs) i x) p (x ∷ xs))
  step None same = record { place = k; row = w; is = e; low_enough = omega arith }
  step (Some i) same =
      let at = position-Some (λ (row : Row). bytes_eq other row.0) (x ∷ xs) i x same in
      let its : i ≡ k → bytes_eq other tag ≡ true = λ is.
      subst (λ (r : Row). bytes_eq other r.0 ≡ true) (ap (λ (m : ℕ). get_or (x ∷ xs) m x) is ∙ get_or_from_slice_get (x ∷ xs) k (tag, w) x e) at.1 in
      let kept = swap_keeps (x ∷ xs) i k x (tag, w) at.0 (λ is. clash (sym apart ∙ its is)) e in
      record { place = kept.0; row = w; is = kept.2; low_enough = kept.1 }

module _ (tag : List ℕ) where
  kept_row : (other : List ℕ) (f : Watcher → Watcher) (rows : List Row) (k : ℕ) (w : Watcher) → slice_get rows k ≡ Some (tag, w) → Stays tag k (changed other f rows)
  kept_row other f rows k w e = let h = one_changed other tag f rows k w e in record { place = k; row = h.0; is = h.1; low_enough = omega arith }

  only : (a : Bool) → (a && true) ≡ false → a ≡ false
  only true e = e
  only false e = refl

  stays : (c : Change) (rows : List Row) (k : ℕ) (w : Watcher) → slice_get rows k ≡ Some (tag, w) → may_end tag c ≡ false → Stays tag k (after c rows)
  stays (Notify now other number to known) rows k w e spared = step (not (has other rows)) where
    step : (b : Bool) → Stays tag k (cond b (rows ++ (other, first_row now number to known) ∷ []) (changed other (renewed number to (until now known.seconds)) rows))
    step true = record { place = k; row = w; is = more_behind rows ((other, first_row now number to known) ∷ []) k (tag, w) e; low_enough = omega arith }
    step false = kept_row other (renewed number to (until now known.seconds)) rows k w e
  stays (Retarget other contact) rows k w e spared = kept_row other (retargeted (notifies.word contact)) rows k w e
  stays (End other) rows k w e spared = one_gone other tag rows k w e spared
  stays (Answer other number status) rows k w e spared = early (nat_lt status FINAL) where
    as_is : Stays tag k rows
    as_is = record { place = k; row = w; is = e; low_enough = omega arith }

    gone : (b : Bool) → (bytes_eq other tag && b) ≡ false → Stays tag k (cond b (without other rows) (changed other (answered number status) rows))
    gone true spares = one_gone other tag rows k w e (only (bytes_eq other tag) spares)
    gone false spares = kept_row other (answered number status) rows k w e

    sent : (b : Bool) → Stays tag k (cond (not b) rows (cond (status == GONE) (without other rows) (changed other (answered number status) rows)))
    sent true = gone (status == GONE) spared
    sent false = as_is

    early : (b : Bool) → Stays tag k (cond b rows (cond (not (was_sent other number rows)) rows (cond (status == GONE) (without other rows) (changed other (answered number status) rows))))
    early true = as_is
    early false = sent (was_sent other number rows)

  stays_all : (cs : List Change) (rows : List Row) (k : ℕ) (w : Watcher) → slice_get rows k ≡ Some (tag, w) → AllSpare tag cs → Stays tag k (after_all cs rows)
  stays_all [] rows k w e spared = record { place = k; row = w; is = e; low_enough = omega arith }
  stays_all (c ∷ cs) rows k w e spared =
      let one = stays c rows k w e spared.0 in
      let all = stays_all cs (after c rows) one.place one.row one.is spared.1 in
      let a = one.low_enough in
      let b = all.low_enough in
      record { place = all.place; row = all.row; is = all.is; low_enough = omega (arith, a, b) }

-- ---- a page tells it, or stops behind it

line_left : (line : List ℕ) (p : Page) → (with_line line p).left ≡ p.left
line_left line p = at (nat_le (length line) ROW) where
  at : (b : Bool) → (cond b (record p { lines = p.lines + 1; text = p.text ++ line }) p).left ≡ p.left
  at true = refl
  at false = refl

line_moment : (line : List ℕ) (p : Page) → (with_line line p).moment ≡ p.moment
line_moment line p = at (nat_le (length line) ROW) where
  at : (b : Bool) → (cond b (record p { lines = p.lines + 1; text = p.text ++ line }) p).moment ≡ p.moment
  at true = refl
  at false = refl

line_keeps : (line told : List ℕ) (p : Page) → HasLine p.text told → HasLine (with_line line p).text told
line_keeps line told p h = at (nat_le (length line) ROW) where
  at : (b : Bool) → HasLine (cond b (record p { lines = p.lines + 1; text = p.text ++ line }) p).text told
  at true = (h.0, h.1 ++ line, ap (λ (t : List ℕ). t ++ line) h.2 ∙ append_assoc h.0 (told ++ h.1) line ∙ ap (λ (t : List ℕ). h.0 ++ t) (append_assoc told h.1 line))
  at false = h

line_told : (line : List ℕ) (p : Page) → length line ≤ ROW → HasLine (with_line line p).text line
line_told line p fits =
    subst (λ (b : Bool). HasLine (cond b (record p { lines = p.lines + 1; text = p.text ++ line }) p).text line) (sym (le-leb (length line) ROW fits))
    (p.text, [], ap (λ (t : List ℕ). p.text ++ t) (sym (none line))) where
      none : (l : List ℕ) → l ++ [] ≡ l
      none [] = refl
      none (x ∷ l) = ap (λ (t : List ℕ). x ∷ t) (none l)

module _ (mailbox : Option (List ℕ)) where
  row_left : (o : Option Row) (p : Page) → (with_row mailbox o p).left ≡ p.left
  row_left None p = refl
  row_left (Some row) p = at (is_wanted mailbox row.1) where
    at : (b : Bool) → (cond b (with_line (row_text p.moment row.0 row.1) p) p).left ≡ p.left
    at true = line_left (row_text p.moment row.0 row.1) p
    at false = refl

  row_moment : (o : Option Row) (p : Page) → (with_row mailbox o p).moment ≡ p.moment
  row_moment None p = refl
  row_moment (Some row) p = at (is_wanted mailbox row.1) where
    at : (b : Bool) → (cond b (with_line (row_text p.moment row.0 row.1) p) p).moment ≡ p.moment
    at true = line_moment (row_text p.moment row.0 row.1) p
    at false = refl

  row_keeps : (o : Option Row) (told : List ℕ) (p : Page) → HasLine p.text told → HasLine (with_row mailbox o p).text told
  row_keeps None told p h = h
  row_keeps (Some row) told p h = at (is_wanted mailbox row.1) where
    at : (b : Bool) → HasLine (cond b (with_line (row_text p.moment row.0 row.1) p) p).text told
    at true = line_keeps (row_text p.moment row.0 row.1) told p h
    at false = h

  module _ (rows : List Row) (tag : List ℕ) (now k : ℕ) (w : Watcher) (is : slice_get rows k ≡ Some (tag, w)) where
    abbrev pub Told : Page → Type 0
    Told p = is_wanted mailbox w ≡ true → length (row_text now tag w) ≤ ROW → HasLine p.text (row_text now tag w)

    -- the page is still to look at it, or has told it
    abbrev pub Comes : Page → Type 0
    Comes p = (p.moment ≡ now) × ((k < p.left) ⊎ Told p)

    row_told : (p : Page) → p.moment ≡ now → Told (with_row mailbox (Some (tag, w)) p)
    row_told p same wanted fits =
        subst (λ (b : Bool). HasLine (cond b (with_line (row_text p.moment tag w) p) p).text (row_text now tag w)) (sym wanted)
        (subst (λ (m : ℕ). HasLine (with_line (row_text m tag w) p).text (row_text now tag w)) (sym same) (line_told (row_text now tag w) p fits))

    look : (p : Page) → Comes p → Comes (after_look rows mailbox p)
    look p c = at (goes_on p) where
      told : (o : Option Row) → o ≡ Some (tag, w) → Told (with_row mailbox o (record p { left = p.left - 1 }))
      told o e = subst (λ (o : Option Row). Told (with_row mailbox o (record p { left = p.left - 1 }))) (sym e) (row_told (record p { left = p.left - 1 }) c.0)

      here : (o : Option Row) → slice_get rows (p.left - 1) ≡ o → k < p.left → (k ≡ p.left - 1) ⊎ (k ≢ p.left - 1)
          → (k < (with_row mailbox o (record p { left = p.left - 1 })).left) ⊎ Told (with_row mailbox o (record p { left = p.left - 1 }))
      here o e before (inl same) = inr (told o (sym e ∙ ap (λ (n : ℕ). slice_get rows n) (sym same) ∙ is))
      here o e before (inr apart) = inl (let same : (with_row mailbox o (record p { left = p.left - 1 })).left ≡ p.left - 1 = row_left o (record p { left = p.left - 1 }) in omega (arith, same, before, apart))

      come : (o : Option Row) → slice_get rows (p.left - 1) ≡ o → (k < p.left) ⊎ Told p
          → (k < (with_row mailbox o (record p { left = p.left - 1 })).left) ⊎ Told (with_row mailbox o (record p { left = p.left - 1 }))
      come o e (inl before) = here o e before (cases_eq k (p.left - 1))
      come o e (inr done) = inr (λ wanted fits. row_keeps o (row_text now tag w) (record p { left = p.left - 1 }) (done wanted fits))

      at : (b : Bool) → Comes (cond b (with_row mailbox (slice_get rows (p.left - 1)) (record p { left = p.left - 1 })) p)
      at true = (row_moment (slice_get rows (p.left - 1)) (record p { left = p.left - 1 }) ∙ c.0, come (slice_get rows (p.left - 1)) refl c.1)
      at false = c

    looks : (n : ℕ) (p : Page) → Comes p → Comes (after_looks rows mailbox n p)
    unfolding after_looks
    looks zero p c = c
    looks (suc n) p c = look (after_looks rows mailbox n p) (looks n p c)

    begins : (place n : ℕ) → k < n → (place ≡ 0) ⊎ (k < place) → k < beginning place n
    begins place n less from = at (place == 0) refl from where
      at : (b : Bool) → (place == 0) ≡ b → (place ≡ 0) ⊎ (k < place) → k < cond b n (min place n)
      at true e from = less
      at false e (inl none) = absurd (let a : (0 == 0) ≡ false = subst (λ (m : ℕ). (m == 0) ≡ false) none e in cc)
      at false e (inr before) = omega (arith, less, before)

    on_page : (place : ℕ) → (place ≡ 0) ⊎ (k < place) → Comes (page now mailbox place rows)
    on_page place from =
        looks LOOKS (record { moment = now; left = beginning place (length rows); lines = 0; text = [] })
        (refl, inl (begins place (length rows) (slice_get_within rows k (tag, w) is) from))

    pub told_or_left : (place : ℕ) → (place ≡ 0) ⊎ (k < place) → (k < (page now mailbox place rows).left) ⊎ Told (page now mailbox place rows)
    told_or_left place from = (on_page place from).1

  -- ---- page after page

  sooner : (place k low : ℕ) → k ≤ low → (place ≡ 0) ⊎ (low < place) → (place ≡ 0) ⊎ (k < place)
  sooner place k low le (inl none) = inl none
  sooner place k low le (inr less) = inr (omega (arith, le, less))

  never : {P : Type 0} (k left : ℕ) → k < left → left ≡ 0 → P
  never k left less none = absurd (omega (arith, less, none))

  told : (tag : List ℕ) (turns : List Turn) (place : ℕ) (rows : List Row) (k : ℕ) (w : Watcher) → slice_get rows k ≡ Some (tag, w) → (place ≡ 0) ⊎ (k < place)
      → Lives tag turns → AreRead mailbox place rows turns → IsTold mailbox place rows tag turns
  told tag [] place rows k w is from lives read = absurd read
  told tag (turn ∷ []) place rows k w is from lives read =
      let at = stays_all tag turn.changes rows k w is lives.0 in
      elim (told_or_left (after_all turn.changes rows) tag turn.now at.place at.row at.is place (sooner place at.place k at.low_enough from)) [
        | inl before ↦ never at.place (page_at mailbox place rows turn).left before read
        | inr done ↦ inl (at.row, at.place, at.is, done)
      ]
  told tag (turn ∷ next ∷ turns) place rows k w is from lives read =
      let at = stays_all tag turn.changes rows k w is lives.0 in
      elim (told_or_left (after_all turn.changes rows) tag turn.now at.place at.row at.is place (sooner place at.place k at.low_enough from)) [
        | inl before ↦ inr (told tag (next ∷ turns) (page_at mailbox place rows turn).left (after_all turn.changes rows) at.place at.row at.is (inr before) lives.1 read.1)
        | inr done ↦ inl (at.row, at.place, at.is, done)
      ]

pub told_first : (mailbox : Option (List ℕ)) (rows : List Row) (turns : List Turn) (tag : List ℕ) → has tag rows ≡ true → Lives tag turns → AreRead mailbox 0 rows turns → IsTold mailbox 0 rows tag turns
told_first mailbox rows turns tag is lives read = let at = stands tag rows is in told mailbox tag turns 0 rows at.place at.row at.is (inl refl) lives read
