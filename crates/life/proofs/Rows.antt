-- The rows of the book, as the living subscriptions by rising serial.
use Rattle.std.proofs.Common.{◌≡◌, ℕ, ◌<◌, ◌≤◌, List, [], ◌∷◌, ◌++◌, ◌+◌, length, take, get_or, Option, Some, None, Bool, true, false, not, ◌&&◌, refl, sym, ◌∙◌, ap, subst, ◌⊎◌, inl, inr, arith, append_assoc, length-append}
use Prim.Native.Nat.{zero, suc}
use Rattle.std.specs.Prelude.{if◌then◌else◌, ◌==◌, nat_lt, nat_le, count_by, slice_get, option_to_list, bytes_eq}
use Rattle.std.proofs.lemmas.List.{append-nil}
use Rattle.std.proofs.lemmas.List.Sums.{count_by_more_yes, count_by_more_no}
use Rattle.std.proofs.lemmas.Option.{slice_get_cases, slice_get_within, get_or_from_slice_get}
use Rattle.std.proofs.Math.Seq.{take-length}
use Rattle.std.proofs.lemmas.Bool.Decides.{nat_tests}
use Rattle.life.proofs.Texts.{Bytes}
use Rattle.notifier_model.specs.Fields.{or_empty}
use Rattle.subscription.specs.declared.terms.Usage.{Usage}
use Rattle.subscription.specs.declared.terms.Want.{Want}
use Rattle.subscription.specs.State.{State}
use Rattle.notifier_model.specs.Limits.{Limits}
use Rattle.notifier_model.specs.declared.event.Event.{Event}
use Rattle.notifier_model.specs.Start.{Start, tag_of}
use Rattle.notifier_model.specs.Requests.{is_refer, user_part, event_of}
use Rattle.notifier_model.specs.declared.row.Row.{Row}
use Rattle.notifier_model.specs.Rows.{Turned, sweep}
use Rattle.notifier_model.specs.Out.{Send, Answers, Notifies, Starts, Notification, notification, notifications}
use Rattle.life.specs.Life.{Life, Born, Then, Heard, birth, address, number, end_of_grant, is_gone, last_accepted, one_if, target, unanswered}
use Rattle.life.specs.Lives.{count_alive, lives, births, life}

-- the CSeq that was heard last
unfoldable pub last_cseq : Life → ℕ
last_cseq (Born t source r) = r.head.cseq
last_cseq (Then t (Heard source r) l) = r.head.cseq
last_cseq (Then t deed l) = last_cseq l

-- the CSeq of the last accepted request, the birth included
unfoldable pub accepted_cseq : Limits → Life → ℕ
accepted_cseq limits l = (last_accepted limits l).request.head.cseq

unfoldable pub usage_of : Start → ℕ → Life → Usage
usage_of start serial l = record {
  call_id = (birth l).head.call_id;
  local_tag = tag_of start.place serial;
  remote_tag = or_empty (birth l).head.from.tag;
  local = (birth l).head.to.text;
  remote = (birth l).head.from.text;
  target = target start.place.limits l;
  routes = (birth l).record_routes;
  remote_cseq = accepted_cseq start.place.limits l;
}

unfoldable pub want_of : Start → ℕ → Life → Want
want_of start serial l = record {
  event = event_of (birth l);
  resource = if is_refer (birth l) then tag_of start.place serial else user_part (birth l).uri;
  to = address start.place.limits l;
  max_cseq = start.place.limits.max_cseq;
}

unfoldable pub sub_of : Start → ℕ → Life → State
sub_of start serial l = record {
  usage = usage_of start serial l;
  want = want_of start serial l;
  count = number start.place.limits l;
  due = end_of_grant start.place.limits l;
}

-- the row of a life
unfoldable pub row_of : Start → ℕ → Life → Row
row_of start serial l = record {
  serial = serial;
  sub = sub_of start serial l;
  last_cseq = last_cseq l;
  unanswered = unanswered start.place.limits l;
}

unfoldable pub live_row : Start → ℕ → Option Life → Option Row
live_row start serial None = None
live_row start serial (Some l) = if is_gone start.place.limits l then None else Some (row_of start serial l)

unfoldable pub rows_to : Start → (ℕ → Option Life) → ℕ → List Row
rows_to start life zero = []
rows_to start life (suc n) = rows_to start life n ++ option_to_list (live_row start (suc n) (life (suc n)))

-- what a rule leaves of all rows, says of them, and takes with those that go
abbrev pub left : (Row → Turned) → List Row → List Row
left rule rows = (sweep rule rows).rows

abbrev pub said : (Row → Turned) → List Row → List Send
said rule rows = (sweep rule rows).notifies

abbrev pub gone : (Row → Turned) → List Row → List Bytes
gone rule rows = (sweep rule rows).gone

-- what a rule makes of a row that may be there
unfoldable pub left_of : (Row → Turned) → Option Row → Option Row
left_of rule None = None
left_of rule (Some row) = (rule row).row

unfoldable pub said_of : (Row → Turned) → Option Row → List Send
said_of rule None = []
said_of rule (Some row) = (rule row).notifies

left-append : (rule : Row → Turned) (xs ys : List Row) → left rule (xs ++ ys) ≡ left rule xs ++ left rule ys
unfolding sweep
left-append rule [] ys = refl
left-append rule (x ∷ xs) ys = rw (left-append rule xs ys) (sym (append_assoc (option_to_list (rule x).row) (left rule xs) (left rule ys)))

said-append : (rule : Row → Turned) (xs ys : List Row) → said rule (xs ++ ys) ≡ said rule xs ++ said rule ys
unfolding sweep
said-append rule [] ys = refl
said-append rule (x ∷ xs) ys = rw (said-append rule xs ys) (sym (append_assoc (rule x).notifies (said rule xs) (said rule ys)))

left-option : (rule : Row → Turned) (o : Option Row) → left rule (option_to_list o) ≡ option_to_list (left_of rule o)
unfolding sweep left_of
left-option rule None = refl
left-option rule (Some row) = append-nil (option_to_list (rule row).row)

said-option : (rule : Row → Turned) (o : Option Row) → said rule (option_to_list o) ≡ said_of rule o
unfolding sweep said_of
said-option rule None = refl
said-option rule (Some row) = append-nil (rule row).notifies

-- the rows after a rule, where each life goes on as the rule says
pub left-rows_to : (start : Start) (rule : Row → Turned) (life after : ℕ → Option Life) (n : ℕ) → ((s : ℕ) → s ≤ n → left_of rule (live_row start s (life s)) ≡ live_row start s (after s)) → left rule (rows_to start life n) ≡ rows_to start after n
unfolding rows_to sweep
left-rows_to start rule life after zero h = refl
left-rows_to start rule life after (suc n) h =
    rw (left-append rule (rows_to start life n) (option_to_list (live_row start (suc n) (life (suc n)))), left-option rule (live_row start (suc n) (life (suc n))), h (suc n) (omega arith), left-rows_to start rule life after n (λ s le. h s (omega arith))) refl

-- rows by lives that agree
pub rows_to-same : (start : Start) (life after : ℕ → Option Life) (n : ℕ) → ((s : ℕ) → s ≤ n → live_row start s (life s) ≡ live_row start s (after s)) → rows_to start life n ≡ rows_to start after n
unfolding rows_to
rows_to-same start life after zero h = refl
rows_to-same start life after (suc n) h = rw (h (suc n) (omega arith), rows_to-same start life after n (λ s le. h s (omega arith))) refl

length-live_row : (start : Start) (s : ℕ) (l : Life) → length (option_to_list (live_row start s (Some l))) ≡ one_if (not (is_gone start.place.limits l))
unfolding live_row
length-live_row start s l = by_gone (is_gone start.place.limits l)
  where
    by_gone : (d : Bool) → length (option_to_list (if d then None else Some (row_of start s l))) ≡ one_if (not d)
    by_gone true = refl
    by_gone false = refl

-- how many of these are so, with one more
count-more : (p : Life → Bool) (ls : List Life) (n : ℕ) (l : Life) → slice_get ls n ≡ Some l → count_by p (take (n + 1) ls) ≡ count_by p (take n ls) + one_if (p l)
count-more p ls n l h = by_test (p l) refl
  where
    here : get_or ls n l ≡ l
    here = get_or_from_slice_get ls n l l h

    by_test : (d : Bool) → p l ≡ d → count_by p (take (n + 1) ls) ≡ count_by p (take n ls) + one_if d
    by_test true e = count_by_more_yes p ls n l (slice_get_within ls n l h) (ap p here ∙ e)
    by_test false e = count_by_more_no p ls n l (slice_get_within ls n l h) (ap p here ∙ e) ∙ (let z : count_by p (take n ls) ≡ count_by p (take n ls) + 0 = omega arith in z)

rows-alive : (start : Start) (f : ℕ → Option Life) (ls : List Life) → ((i : ℕ) → f (suc i) ≡ slice_get ls i) → (n : ℕ) → n ≤ length ls → length (rows_to start f n) ≡ count_by (λ l. not (is_gone start.place.limits l)) (take n ls)
unfolding rows_to
rows-alive start f ls nth zero le = refl
rows-alive start f ls nth (suc n) le =
    length-append (rows_to start f n) (option_to_list (live_row start (suc n) (f (suc n))))
    ∙ (rw (rows-alive start f ls nth n (omega arith), nth n) (by_place (slice_get_cases ls n).1))
  where
    by_place : ((l : Life) × (n < length ls) × (slice_get ls n ≡ Some l) × (get_or ls n l ≡ l)) ⊎ ((length ls ≤ n) × (slice_get ls n ≡ None))
        → count_by (λ l. not (is_gone start.place.limits l)) (take n ls) + length (option_to_list (live_row start (suc n) (slice_get ls n))) ≡ count_by (λ l. not (is_gone start.place.limits l)) (take (suc n) ls)
    by_place (inl p) = rw (p.2, length-live_row start (suc n) p.0)
        (sym (subst (λ (i : ℕ). count_by (λ l. not (is_gone start.place.limits l)) (take i ls) ≡ count_by (λ l. not (is_gone start.place.limits l)) (take n ls) + one_if (not (is_gone start.place.limits p.0))) (let s : n + 1 ≡ suc n = omega arith in s) (count-more (λ l. not (is_gone start.place.limits l)) ls n p.0 p.2)))
    by_place (inr p) = absurd (let le' = p.0 in omega arith)

-- as many rows as live
pub length-rows_to : (start : Start) (past : List Event) → length (rows_to start (life start past) (births start past)) ≡ count_alive start.place.limits (lives start past)
unfolding births life count_alive
length-rows_to start past =
    rows-alive start (life start past) (lives start past) (λ i. refl) (length (lives start past)) (omega arith)
    ∙ ap (λ (ls : List Life). count_by (λ l. not (is_gone start.place.limits l)) ls) (take-length (lives start past))

pub notifications-append : (tag : Bytes) (xs ys : List Send) → notifications tag (xs ++ ys) ≡ notifications tag xs ++ notifications tag ys
unfolding notifications
notifications-append tag [] ys = refl
notifications-append tag (Answers to bytes ∷ xs) ys = notifications-append tag xs ys
notifications-append tag (Starts t refer_to ∷ xs) ys = notifications-append tag xs ys
notifications-append tag (Notifies to mailbox n ∷ xs) ys = by_tag (notifications-append tag xs ys) (bytes_eq n.local_tag tag)
  where
    by_tag : notifications tag (xs ++ ys) ≡ notifications tag xs ++ notifications tag ys → (d : Bool) → (if d then notification to mailbox n ∷ notifications tag (xs ++ ys) else notifications tag (xs ++ ys)) ≡ (if d then notification to mailbox n ∷ notifications tag xs else notifications tag xs) ++ notifications tag ys
    by_tag ih true = rw ih refl
    by_tag ih false = ih

is_within_n : ℕ → ℕ → Bool
is_within_n k n = nat_lt 0 k && nat_le k n

-- what is said of k: nothing by the row of anybody else
said-within : (start : Start) (rule : Row → Turned) (life : ℕ → Option Life) (tag : Bytes) (k n : ℕ) → ((s : ℕ) → s ≤ n → (s ≡ k → ⊥) → notifications tag (said_of rule (live_row start s (life s))) ≡ []) → notifications tag (said rule (rows_to start life n)) ≡ (if is_within_n k n then notifications tag (said_of rule (live_row start k (life k))) else [])
unfolding rows_to sweep is_within_n notifications
said-within start rule life tag k zero others = by_test (nat_lt 0 k && nat_le k 0) (let e : (nat_lt 0 k && nat_le k 0) ≡ false = grind (arith, nat_tests) in e)
  where
    by_test : (d : Bool) → d ≡ false → ◌≡◌ {A = List Notification} [] (if d then notifications tag (said_of rule (live_row start k (life k))) else [])
    by_test true e = absurd (cc)
    by_test false e = refl
said-within start rule life tag k (suc n) others =
    rw (
      said-append rule (rows_to start life n) (option_to_list (live_row start (suc n) (life (suc n)))),
      notifications-append tag (said rule (rows_to start life n)) (said rule (option_to_list (live_row start (suc n) (life (suc n))))),
      said-option rule (live_row start (suc n) (life (suc n))),
      said-within start rule life tag k n (λ s le. others s (omega arith)),
    )
    (by_place (k == suc n) refl)
  where
    by_place : (d : Bool) → (k == suc n) ≡ d → (if nat_lt 0 k && nat_le k n then notifications tag (said_of rule (live_row start k (life k))) else []) ++ notifications tag (said_of rule (live_row start (suc n) (life (suc n)))) ≡ (if nat_lt 0 k && nat_le k (suc n) then notifications tag (said_of rule (live_row start k (life k))) else [])
    by_place true e =
        let at : k ≡ suc n = grind (arith, nat_tests) in
        let before : (nat_lt 0 k && nat_le k n) ≡ false = grind (arith, nat_tests) in
        let here : (nat_lt 0 k && nat_le k (suc n)) ≡ true = grind (arith, nat_tests) in
        rw (before, here, at) refl
    by_place false e =
        let other : suc n ≡ k → ⊥ = (λ at. absurd (grind (arith, nat_tests))) in
        let same : (nat_lt 0 k && nat_le k (suc n)) ≡ (nat_lt 0 k && nat_le k n) = grind (arith, nat_tests) in
        rw (others (suc n) (omega arith) other, same) (append-nil (if nat_lt 0 k && nat_le k n then notifications tag (said_of rule (live_row start k (life k))) else []))

-- the same, where no one else has a life
pub said-rows_to : (start : Start) (rule : Row → Turned) (life : ℕ → Option Life) (tag : Bytes) (k n : ℕ) → ((s : ℕ) → s ≤ n → (s ≡ k → ⊥) → notifications tag (said_of rule (live_row start s (life s))) ≡ []) → ((s : ℕ) → (s ≡ 0) ⊎ (n < s) → life s ≡ None) → notifications tag (said rule (rows_to start life n)) ≡ notifications tag (said_of rule (live_row start k (life k)))
unfolding live_row said_of is_within_n notifications
said-rows_to start rule life tag k n others none = said-within start rule life tag k n others ∙ by_place (nat_lt 0 k && nat_le k n) refl
  where
    out_of : (nat_lt 0 k && nat_le k n) ≡ false → (k ≡ 0) ⊎ (n < k)
    out_of e = grind (arith, nat_tests)

    by_place : (d : Bool) → (nat_lt 0 k && nat_le k n) ≡ d → (if d then notifications tag (said_of rule (live_row start k (life k))) else []) ≡ notifications tag (said_of rule (live_row start k (life k)))
    by_place true e = refl
    by_place false e = rw (none k (out_of e)) refl
