-- The steps at which a request comes that makes no dialog.
use Rattle.std.proofs.Common.{◌≡◌, ℕ, ◌<◌, ◌≤◌, ◌^◌, List, [], ◌∷◌, ◌++◌, Option, Some, None, Bool, true, false, not, ◌&&◌, refl, sym, ◌∙◌, ap, ◌⊎◌, inl, inr, arith, subst}
use Prim.Native.Nat.{zero, suc}
use Rattle.std.specs.Prelude.{if◌then◌else◌, ◌==◌, ◌||◌, find, option_map, take, is_none, bytes_eq, option_to_list}
use Rattle.std.proofs.lemmas.Bool.Decides.{nat_tests}
use Rattle.std.proofs.lemmas.List.Folds.{find-append}
use Rattle.life.proofs.Texts.{Bytes, never_both, bytes_same, and-left, and-right, and-false}
use Rattle.sip_text.specs.declared.address.Addr.{Addr}
use Rattle.sip_read.specs.declared.message.Request.{Request}
use Rattle.notifier_model.specs.Fields.{or_empty, same_text}
use Rattle.notifier_model.specs.Start.{Start, tag_of}
use Rattle.notifier_model.specs.declared.event.Event.{Event}
use Rattle.notifier_model.specs.declared.event.Event.TheVariants.{Request as Comes}
use Rattle.notifier_model.specs.declared.refusal.Refusal.{Refusal}
use Rattle.notifier_model.specs.declared.row.Key.{Key}
use Rattle.notifier_model.specs.Requests.{same_key, key_of_request, is_ack, misfit}
use Rattle.sip_write.specs.Answer.{answer_text}
use Rattle.notifier_model.specs.declared.row.Row.{Row}
use Rattle.notifier_model.specs.declared.row.Kept.{Kept}
use Rattle.notifier_model.specs.Book.{Book, keeping, refused}
use Rattle.notifier_model.specs.Rows.{Turned, stays, wherever, only, is_dialog}
use Rattle.notifier_model.specs.Answers.{has_key, kept_answer, ring_with, refusal_answer}
use Rattle.notifier_model.specs.Out.{Send, Answers, notifications}
use Rattle.life.specs.Past.{now, is_among, is_new, with_key, keys_with, keys, is_fresh, fits}
use Rattle.life.specs.Life.{Life, Then, Heard, birth, is_above, is_gone, Born}
use Rattle.life.specs.Lives.{when, is_in_dialog, may_hear, is_birth, births, life, birth_at, begun}
use Rattle.life.proofs.Rows.{usage_of, sub_of, row_of, live_row, rows_to}
use Rattle.life.proofs.Deeds.{hears, lived-comes}
use Rattle.life.proofs.NextLives.{no_life, Ranges}
use Rattle.life.proofs.Turns.{Follows}
use Rattle.life.proofs.AllRows.{TurnsInto, Rules, apart}
use Rattle.life.proofs.Invariant.{keys_of, Holds, Goes, life_small}
use Rattle.life.proofs.RepliesAndTicks.{by_nothing, holdings_quiet}

-- ---- the ring has the keys of the last fresh requests

among-ring : (ring : List Kept) (key : Key) → is_none (option_map (λ (kept : Kept). kept.bytes) (find (has_key key) ring)) ≡ not (is_among key (keys_of ring))
unfolding is_among
among-ring [] key = refl
among-ring (a ∷ ring) key = by_key (among-ring ring key) (same_key a.key key)
  where
    by_key : is_none (option_map (λ (kept : Kept). kept.bytes) (find (has_key key) ring)) ≡ not (is_among key (keys_of ring)) → (d : Bool) → is_none (option_map (λ (kept : Kept). kept.bytes) (if d then Some a else find (has_key key) ring)) ≡ not (d || is_among key (keys_of ring))
    by_key ih true = refl
    by_key ih false = ih

pub fresh-kept : (start : Start) (past : List Event) (b : Book) (r : Request) → Holds start past b → is_ack r ≡ false → is_fresh start.place.limits past r ≡ is_none (kept_answer b.ring (key_of_request r))
unfolding is_fresh kept_answer
fresh-kept start past b r h other = rw other (by_key (key_of_request r))
  where
    by_key : (o : Option Key) → is_new o (take start.place.limits.kept (keys start.place.limits past)) ≡ is_none (kept_answer b.ring o)
    by_key None = unfold kept_answer in refl
    by_key (Some key) = unfold kept_answer in (rw (← h.ring_is) (sym (among-ring b.ring key)))

take-keys_of : (n : ℕ) (ring : List Kept) → keys_of (take n ring) ≡ take n (keys_of ring)
take-keys_of zero ring = refl
take-keys_of (suc n) [] = refl
take-keys_of (suc n) (a ∷ ring) = ap (λ (ks : List Key). a.key ∷ ks) (take-keys_of n ring)

take_less : (n : ℕ) (ks : List Key) → take n (take (suc n) ks) ≡ take n ks
take_less zero ks = refl
take_less (suc n) [] = refl
take_less (suc n) (k ∷ ks) = ap (λ (ms : List Key). k ∷ ms) (take_less n ks)

-- one more in front of the last n, or of all
take_front : (n : ℕ) (k : Key) (ks : List Key) → take n (k ∷ take n ks) ≡ take n (k ∷ ks)
take_front zero k ks = refl
take_front (suc n) k ks = ap (λ (ms : List Key). k ∷ ms) (take_less n ks)

pub ring_goes : (start : Start) (past : List Event) (source : Addr) (ring : List Kept) (r : Request) (bytes : Bytes) → keys_of ring ≡ take start.place.limits.kept (keys start.place.limits past) → is_fresh start.place.limits past r ≡ true → keys_of (ring_with start.place.limits ring (key_of_request r) bytes) ≡ take start.place.limits.kept (keys start.place.limits (Comes source r ∷ past))
unfolding keys keys_with is_fresh
ring_goes start past source ring r bytes e fresh = rw fresh (by_key (key_of_request r))
  where
    by_key : (o : Option Key) → keys_of (ring_with start.place.limits ring o bytes) ≡ take start.place.limits.kept (with_key o (keys start.place.limits past))
    by_key None = unfold ring_with in e
    by_key (Some key) = unfold ring_with in (take-keys_of start.place.limits.kept (record { key = key; bytes = bytes } ∷ ring) ∙ (ap (λ (ks : List Key). take start.place.limits.kept (key ∷ ks)) e ∙ take_front start.place.limits.kept key (keys start.place.limits past)))

-- ---- a request that is answered and befalls no one

abbrev pub Nobody_hears : Start → List Event → Request → Type 0
Nobody_hears start past r = (s : ℕ) (l : Life) → life start past s ≡ Some l → is_gone start.place.limits l ≡ false → hears start s past r l ≡ false

pub refused_goes : (start : Start) (past : List Event) (b : Book) (source : Addr) (r : Request) (cause : Refusal) → Ranges start.place.limits → Holds start past b → is_fresh start.place.limits past r ≡ true → birth_at start past (Comes source r) ≡ None → Nobody_hears start past r → Goes start past (Comes source r) (refused start.place b source r cause)
unfolding refused keeping now notifications
refused_goes start past b source r cause ok h fresh none nobody =
    by_nothing start past (Comes source r) (keeping start.place b r (refusal_answer start.place b.boxes source r cause)) (Answers source (answer_text (refusal_answer start.place b.boxes source r cause)) ∷ []) ok none h.clock_is h.next_is h.rows_are (holdings_quiet start past (Comes source r) b.boxes none refl h.boxes_hold)
    (ring_goes start past source b.ring r (answer_text (refusal_answer start.place b.boxes source r cause)) h.ring_is fresh) (λ tag. refl) (λ s l is alive. rw (lived-comes start s past source r l, nobody s l is alive) refl)

-- what doesn't fit
pub birth-unfit : (start : Start) (past : List Event) (source : Addr) (r : Request) → fits start past r ≡ false → birth_at start past (Comes source r) ≡ None
unfolding birth_at begun is_birth
birth-unfit start past source r unfit = rw unfit (by_tag (is_none r.head.to.tag))
  where
    by_tag : (d : Bool) → when (d && false) (Born (now past) source r) ≡ None
    by_tag true = refl
    by_tag false = refl

pub unfit-denial : (start : Start) (past : List Event) (r : Request) → (is_fresh start.place.limits past r && is_none (misfit r)) ≡ false → Nobody_hears start past r
unfolding hears may_hear
unfit-denial start past r unfit s l is alive = by_tests (is_in_dialog (tag_of start.place s) (birth l) r) (is_fresh start.place.limits past r) (is_none (misfit r)) (is_above l r.head.cseq) unfit
  where
    by_tests : (a b c d : Bool) → (b && c) ≡ false → (a && (b && (c && d))) ≡ false
    by_tests a true true d e = absurd (cc)
    by_tests a true false d e = and-false a
    by_tests a false c d e = and-false a

-- an ACK, or a repeat
pub stale_goes : (start : Start) (past : List Event) (b : Book) (source : Addr) (r : Request) (outs : List Send) → Ranges start.place.limits → Holds start past b → is_fresh start.place.limits past r ≡ false → ((tag : Bytes) → notifications tag outs ≡ []) → Goes start past (Comes source r) (record { book = b; outs = outs })
unfolding now
stale_goes start past b source r outs ok h stale silent =
    let unfit : fits start past r ≡ false = unfold fits in (rw stale refl) in
    let none = birth-unfit start past source r unfit in
    let denial : (is_fresh start.place.limits past r && is_none (misfit r)) ≡ false = rw stale refl in
    by_nothing start past (Comes source r) b outs ok none h.clock_is h.next_is h.rows_are (holdings_quiet start past (Comes source r) b.boxes none refl h.boxes_hold) (h.ring_is ∙ sym same_keys) silent (λ s l is alive. rw (lived-comes start s past source r l, unfit-denial start past r denial s l is alive) refl)
  where
    same_keys : take start.place.limits.kept (keys start.place.limits (Comes source r ∷ past)) ≡ take start.place.limits.kept (keys start.place.limits past)
    same_keys = unfold keys keys_with is_fresh in (let e : (not (is_ack r) && is_new (key_of_request r) (take start.place.limits.kept (keys start.place.limits past))) ≡ false = stale in rw e refl)

-- ---- the row of a dialog, or that there is none

pub record Somebody (start : Start) (past : List Event) (p : Row → Bool) (rows : List Row) : Type 0 where
  pub serial : ℕ
  pub who : Life
  pub lives : life start past serial ≡ Some who
  pub alive : is_gone start.place.limits who ≡ false
  pub dialog : p (row_of start serial who) ≡ true
  pub found : find p rows ≡ Some (row_of start serial who)

pub record Nobody (start : Start) (past : List Event) (p : Row → Bool) (n : ℕ) (rows : List Row) : Type 0 where
  pub others : (s : ℕ) (l : Life) → 0 < s → s ≤ n → life start past s ≡ Some l → is_gone start.place.limits l ≡ false → p (row_of start s l) ≡ false
  pub found : find p rows ≡ None

none_more : (start : Start) (past : List Event) (p : Row → Bool) (n : ℕ) (rows : List Row) (here : Option Row) → Nobody start past p n rows → find p (option_to_list here) ≡ None → ((l : Life) → life start past (suc n) ≡ Some l → is_gone start.place.limits l ≡ false → p (row_of start (suc n) l) ≡ false) → Nobody start past p (suc n) (rows ++ option_to_list here)
none_more start past p n rows here none e h = record {
  others = λ s l pos le is alive. by_place s l (last_or s le) pos is alive;
  found = find-append p rows (option_to_list here) ∙ rw (none.found, e) refl;
}
  where
    last_or : (s : ℕ) → s ≤ suc n → (s ≤ n) ⊎ (suc n ≡ s)
    last_or s le = grind arith

    by_place : (s : ℕ) (l : Life) → (s ≤ n) ⊎ (suc n ≡ s) → 0 < s → life start past s ≡ Some l → is_gone start.place.limits l ≡ false → p (row_of start s l) ≡ false
    by_place s l (inl le) pos is alive = none.others s l pos le is alive
    by_place s l (inr e) pos is alive = subst (λ (x : ℕ). (m : Life) → life start past x ≡ Some m → is_gone start.place.limits m ≡ false → p (row_of start x m) ≡ false) e h l is alive

pub look_up : (start : Start) (past : List Event) (p : Row → Bool) (n : ℕ) → Somebody start past p (rows_to start (life start past) n) ⊎ Nobody start past p n (rows_to start (life start past) n)
unfolding rows_to live_row
look_up start past p zero = inr (record { others = λ s l pos le is alive. absurd (omega arith); found = refl })
look_up start past p (suc n) = by_before (look_up start past p n)
  where
    by_dialog : Nobody start past p n (rows_to start (life start past) n) → (l : Life) → life start past (suc n) ≡ Some l → is_gone start.place.limits l ≡ false → (b : Bool) → p (row_of start (suc n) l) ≡ b →
        Somebody start past p (rows_to start (life start past) n ++ option_to_list (Some (row_of start (suc n) l))) ⊎ Nobody start past p (suc n) (rows_to start (life start past) n ++ option_to_list (Some (row_of start (suc n) l)))
    by_dialog none l is alive true e = inl (record { serial = suc n; who = l; lives = is; alive = alive; dialog = e; found = find-append p (rows_to start (life start past) n) (row_of start (suc n) l ∷ []) ∙ rw (none.found, e) refl })
    by_dialog none l is alive false e = inr (none_more start past p n (rows_to start (life start past) n) (Some (row_of start (suc n) l)) none (rw e refl) (λ m is' alive'. let same : l ≡ m = cc in subst (λ (x : Life). p (row_of start (suc n) x) ≡ false) same e))

    by_gone : Nobody start past p n (rows_to start (life start past) n) → (l : Life) → life start past (suc n) ≡ Some l → (b : Bool) → is_gone start.place.limits l ≡ b →
        Somebody start past p (rows_to start (life start past) n ++ option_to_list (if b then None else Some (row_of start (suc n) l))) ⊎ Nobody start past p (suc n) (rows_to start (life start past) n ++ option_to_list (if b then None else Some (row_of start (suc n) l)))
    by_gone none l is true g = inr (none_more start past p n (rows_to start (life start past) n) None none refl (λ m is' alive'. absurd (let same : l ≡ m = cc in never_both (is_gone start.place.limits l) g (ap (is_gone start.place.limits) same ∙ alive'))))
    by_gone none l is false g = by_dialog none l is g (p (row_of start (suc n) l)) refl

    by_life : Nobody start past p n (rows_to start (life start past) n) → (o : Option Life) → life start past (suc n) ≡ o →
        Somebody start past p (rows_to start (life start past) n ++ option_to_list (live_row start (suc n) o)) ⊎ Nobody start past p (suc n) (rows_to start (life start past) n ++ option_to_list (live_row start (suc n) o))
    by_life none None is = inr (none_more start past p n (rows_to start (life start past) n) None none refl (λ m is' alive'. absurd (let f : Some m ≡ None = sym is' ∙ is in cc)))
    by_life none (Some l) is = by_gone none l is (is_gone start.place.limits l) refl

    by_before : Somebody start past p (rows_to start (life start past) n) ⊎ Nobody start past p n (rows_to start (life start past) n) →
        Somebody start past p (rows_to start (life start past) n ++ option_to_list (live_row start (suc n) (life start past (suc n)))) ⊎ Nobody start past p (suc n) (rows_to start (life start past) n ++ option_to_list (live_row start (suc n) (life start past (suc n))))
    by_before (inl one) = inl (record { serial = one.serial; who = one.who; lives = one.lives; alive = one.alive; dialog = one.dialog; found = find-append p (rows_to start (life start past) n) (option_to_list (live_row start (suc n) (life start past (suc n)))) ∙ rw one.found refl })
    by_before (inr none) = by_life none (life start past (suc n)) refl

-- ---- a request in a dialog

-- everybody else is another dialog
pub others_not : (start : Start) (r : Request) (tag : Bytes) (k s : ℕ) (l m : Life) → k < 2 ^ 64 → s < 2 ^ 64 → is_dialog r tag (row_of start k l) ≡ true → (s ≡ k → ⊥) → is_dialog r tag (row_of start s m) ≡ false
unfolding is_dialog row_of sub_of usage_of
others_not start r tag k s l m small_k small_s e differ =
    rw other (and-false (bytes_eq (birth m).head.call_id r.head.call_id))
  where
    mine : tag_of start.place k ≡ tag
    mine = bytes_same (tag_of start.place k) tag (and-left (bytes_eq (tag_of start.place k) tag) (bytes_eq (or_empty (birth l).head.from.tag) (or_empty r.head.from.tag)) (and-right (bytes_eq (birth l).head.call_id r.head.call_id) (bytes_eq (tag_of start.place k) tag && bytes_eq (or_empty (birth l).head.from.tag) (or_empty r.head.from.tag)) e))

    other : bytes_eq (tag_of start.place s) tag ≡ false
    other = subst (λ (t : Bytes). bytes_eq (tag_of start.place s) t ≡ false) mine (apart start s k small_s small_k differ)

-- a request with a To tag makes no dialog
pub no_birth : (start : Start) (past : List Event) (source : Addr) (r : Request) (tag : Bytes) → r.head.to.tag ≡ Some tag → birth_at start past (Comes source r) ≡ None
unfolding birth_at begun is_birth
no_birth start past source r tag to = rw to refl

pub heard-is : (start : Start) (past : List Event) (r : Request) (tag : Bytes) (s : ℕ) (l : Life) → is_fresh start.place.limits past r ≡ true → is_none (misfit r) ≡ true → r.head.to.tag ≡ Some tag → hears start s past r l ≡ (is_dialog r tag (row_of start s l) && is_above l r.head.cseq)
unfolding hears may_hear is_in_dialog is_dialog row_of sub_of usage_of
heard-is start past r tag s l fresh good to =
    ap (λ (d : Bool). (bytes_eq (birth l).head.call_id r.head.call_id && (same_text (Some (tag_of start.place s)) r.head.to.tag && bytes_eq (or_empty (birth l).head.from.tag) (or_empty r.head.from.tag))) && (d && (is_none (misfit r) && is_above l r.head.cseq))) fresh
    ∙ (ap (λ (d : Bool). (bytes_eq (birth l).head.call_id r.head.call_id && (same_text (Some (tag_of start.place s)) r.head.to.tag && bytes_eq (or_empty (birth l).head.from.tag) (or_empty r.head.from.tag))) && (true && (d && is_above l r.head.cseq))) good
    ∙ ap (λ (t : Option Bytes). (bytes_eq (birth l).head.call_id r.head.call_id && (same_text (Some (tag_of start.place s)) t && bytes_eq (or_empty (birth l).head.from.tag) (or_empty r.head.from.tag))) && is_above l r.head.cseq) to)

pub range_of : (start : Start) (past : List Event) (s : ℕ) (l : Life) → life start past s ≡ Some l → (0 < s) × (s ≤ births start past)
range_of start past s l is = by_place (where_is s (births start past))
  where
    where_is : (s n : ℕ) → ((s ≡ 0) ⊎ (n < s)) ⊎ ((0 < s) × (s ≤ n))
    where_is s n = grind arith

    by_place : ((s ≡ 0) ⊎ (births start past < s)) ⊎ ((0 < s) × (s ≤ births start past)) → (0 < s) × (s ≤ births start past)
    by_place (inl out) = absurd (let f : Some l ≡ None = sym is ∙ no_life start past s out in cc)
    by_place (inr inside) = inside

-- the rule for the dialog's row alone
pub dialog_rules : (start : Start) (past : List Event) (source : Addr) (r : Request) (tag : Bytes) (k : ℕ) (who : Life) (rule : Row → Turned) → Ranges start.place.limits → is_fresh start.place.limits past r ≡ true → is_none (misfit r) ≡ true → r.head.to.tag ≡ Some tag → life start past k ≡ Some who → is_dialog r tag (row_of start k who) ≡ true → is_above who r.head.cseq ≡ true
    → Follows start k (Comes source r ∷ past) (rule (row_of start k who)) (Then (now past) (Heard source r) who) → Rules start past (Comes source r) (only k rule)
unfolding only wherever row_of
dialog_rules start past source r tag k who rule ok fresh good to lives dialog above follows s l is alive = rw (lived-comes start s past source r l) (by_serial (s == k) refl)
  where
    here : k ≡ s → who ≡ l → TurnsInto start s (Comes source r ∷ past) (rule (row_of start s l)) l (when (hears start s past r l) (Then (now past) (Heard source r) l))
    here at same =
        subst (λ (x : ℕ). TurnsInto start x (Comes source r ∷ past) (rule (row_of start x l)) l (when (hears start x past r l) (Then (now past) (Heard source r) l))) at
        (subst (λ (x : Life). TurnsInto start k (Comes source r ∷ past) (rule (row_of start k x)) x (when (hears start k past r x) (Then (now past) (Heard source r) x))) same
        (let heard_here : hears start k past r who ≡ true = heard-is start past r tag k who fresh good to ∙ rw (dialog, above) refl in rw heard_here follows))

    by_serial : (d : Bool) → (s == k) ≡ d → TurnsInto start s (Comes source r ∷ past) (if d then rule (row_of start s l) else stays (row_of start s l)) l (when (hears start s past r l) (Then (now past) (Heard source r) l))
    by_serial true e =
        let at : s ≡ k = grind (arith, nat_tests) in
        let is_k : life start past k ≡ Some l = subst (λ (x : ℕ). life start past x ≡ Some l) at is in
        here (sym at) (let same : who ≡ l = cc in same)
    by_serial false e =
        let denial_here : hears start s past r l ≡ false = heard-is start past r tag s l fresh good to ∙ rw (others_not start r tag k s who l (life_small start past k who ok lives) (life_small start past s l ok is) dialog (λ at. absurd (grind (arith, nat_tests)))) refl in
        rw denial_here refl
