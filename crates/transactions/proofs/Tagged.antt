-- The transactions with one tag, and the list without them.
use Rattle.std.proofs.Common.{◌≡◌, ◌∙◌, sym, ap, refl, inl, inr, ℕ, ◌+◌, Bool, true, false, cond, not, Option, Some, None, List, [], ◌∷◌, arith}
use Rattle.std.specs.Prelude.{filter_map, bytes_eq}
use Rattle.std.specs.List.{cons_option}
use Rattle.transactions.specs.declared.open.Open.{Open}
use Rattle.transactions.specs.declared.book.Book.{Book}
use Rattle.transactions.specs.Timers.{has_name, has_tag, is_tagged}
use Rattle.transactions.specs.Machine.{wherever, without}
use Rattle.transactions.specs.Places.{tag_head}
use Rattle.transactions.specs.Stored.{at, tag_ring, seated, tag_seat, live_list, IsBook, IsSound}
use Rattle.transactions.proofs.Among.{Among}
use Rattle.transactions.proofs.Fewer.{live_place}
use Rattle.transactions.proofs.Seats.{tag_is_head, head_sits}
use Rattle.transactions.proofs.Sounds.{name_is}
use Rattle.transactions.proofs.Walks.{HeadSits, Walked, walk_end}
use Rattle.std.proofs.lemmas.Slice.Eq.{bytes_eq-Decides}

pub tagged_there : (tag : List ℕ) (o : Option Open) → is_tagged tag o ≡ true → (t : Open) × (o ≡ Some t) × (has_tag tag t ≡ true)
tagged_there tag None e = absurd (cc)
tagged_there tag (Some t) e = (t, refl, e)

-- ---- the list without them

-- one of them more or less is no matter
pub without_dropped : (tag : List ℕ) (t : Open) → has_tag tag t ≡ true → (xs : List Open) → without tag (filter_map (wherever t.tag t.number (λ (x : Open). None)) xs) ≡ without tag xs
without_dropped tag t h [] = refl
without_dropped tag t h (x ∷ xs) = by (has_name t.tag t.number x) refl (without_dropped tag t h xs)
  where
    kept : List Open
    kept = filter_map (wherever t.tag t.number (λ (y : Open). None)) xs

    by : (b : Bool) → has_name t.tag t.number x ≡ b → without tag kept ≡ without tag xs → without tag (cons_option (cond b None (Some x)) kept) ≡ without tag (x ∷ xs)
    by false e more = ap (λ ys. cond (not (has_tag tag x)) (x ∷ ys) ys) more
    by true e more =
        let same = (name_is t.tag t.number x e).0 in
        let tagged : has_tag tag x ≡ true = ap (λ y. bytes_eq y tag) same ∙ h in
        more ∙ sym (ap (λ b. cond (not b) (x ∷ without tag xs) (without tag xs)) tagged)

pub without_none : (tag : List ℕ) (xs : List Open) → ((t : Open) → Among t xs → has_tag tag t ≡ false) → without tag xs ≡ xs
without_none tag [] h = refl
without_none tag (x ∷ xs) h =
    ap (λ b. cond (not b) (x ∷ without tag xs) (without tag xs)) (h x (inl refl)) ∙ ap (λ ys. x ∷ ys) (without_none tag xs (λ t a. h t (inr a)))

pub among_without : (tag : List ℕ) (t : Open) (xs : List Open) → Among t (without tag xs) → Among t xs × (has_tag tag t ≡ false)
among_without tag t [] a = absurd a
among_without tag t (x ∷ xs) a = by (has_tag tag x) refl a (among_without tag t xs)
  where
    by : (b : Bool) → has_tag tag x ≡ b → Among t (cond (not b) (x ∷ without tag xs) (without tag xs)) → (Among t (without tag xs) → Among t xs × (has_tag tag t ≡ false)) → Among t (x ∷ xs) × (has_tag tag t ≡ false)
    by true e b more = let it = more b in (inr it.0, it.1)
    by false e (inl is) more = (inl is, ap (has_tag tag) is ∙ e)
    by false e (inr b) more = let it = more b in (inr it.0, it.1)

-- ---- the walk round the ring of a tag

pub tag_sits : (b : Book) (tag : List ℕ) → IsBook b → HeadSits (tag_seat b) (tag_head b.size tag)
tag_sits b tag h = head_sits b.size (tag_ring b.size) (at b) h.within (tag_head b.size tag) (tag_is_head b.size tag)

pub seat_kept : (old new : Book) (n : ℕ) → new.size ≡ old.size → at new n ≡ at old n → tag_seat new n ≡ tag_seat old n
seat_kept old new n size same = ap (λ (m : ℕ). seated m (tag_ring m) n (at new n)) size ∙ ap (seated old.size (tag_ring old.size) n) same

module _ (b : Book) (tag : List ℕ) (h : IsSound b) (w : Walked (tag_seat b) (tag_head b.size tag) (tag_head b.size tag) (λ n. is_tagged tag (at b n) ≡ false)) where
  untagged : (p : ℕ) (t : Open) → at b p ≡ Some t → has_tag tag t ≡ false
  untagged p t e = by (has_tag tag t) refl
    where
      by : (x : Bool) → has_tag tag t ≡ x → has_tag tag t ≡ false
      by false k = k
      by true k =
          let ring : tag_ring b.size t ≡ tag_head b.size tag = ap (tag_head b.size) ((bytes_eq-Decides t.tag tag).0 k) in
          ap (is_tagged tag) (sym e)
          ∙ walk_end (tag_seat b) b.tags (tag_head b.size tag) h.book.tags (tag_sits b tag h.book) (tag_head b.size tag) (λ n. is_tagged tag (at b n) ≡ false) w refl p
          (record { ring = tag_ring b.size t; rank = t.serial + 1 }) (ap (seated b.size (tag_ring b.size) p) e) ring (λ zero. omega (arith, zero))

  pub all_ended : without tag (live_list b) ≡ live_list b
  all_ended = without_none tag (live_list b) (λ t a. (let it = live_place b t a in untagged it.0 t it.1))
