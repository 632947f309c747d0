-- What a keeper notes of workers, one behind the other.
use Rattle.std.proofs.Common.{◌≡◌, ◌∙◌, ℕ, ◌+◌, ◌<◌, List, [], ◌∷◌, ◌++◌, length, take, get_or, map, Option, Some, None, refl, sym, ap, append_assoc}
use Rattle.std.specs.Prelude.{fold, slice_get}
use Rattle.std.specs.List.{flat_map}
use Rattle.std.specs.Option.{option_map_or}
use Rattle.std.proofs.lemmas.List.{append-nil, map-append, length-map, set_at}
use Rattle.std.proofs.lemmas.List.Sums.{fold-append}
use Rattle.std.proofs.lemmas.List.FromFn.{length-enumerate_from}
use Rattle.package.specs.Values.{MailChange}
use Rattle.notifier_model.specs.declared.event.Event.{Event}
use Rattle.notifier_model.specs.declared.event.Event.TheVariants as event
use Rattle.notifier_model.specs.declared.event.Out.{Out}
use Rattle.notifier.specs.Standing.{Standing}
use Rattle.journal.specs.declared.file.Account.{Account}
use Rattle.journal.specs.declared.record.Told.{Told}
use Rattle.journal.specs.declared.record.Record.TheVariants.{Handled}
use Rattle.journal.specs.Records.{written}
use Rattle.keeper.specs.Told.{Kept, kept_from, told_event, caught_up}
use Rattle.keeper.specs.Keeping.{State, first, at_worker, with_worker, with_handled, after_passed, after_handled, after_catching_up}
use Rattle.resumption.specs.declared.desks.Worked.{Worked}
use Rattle.resumption.specs.Accounts.{lines_of, kept_then, lines_written, stands, unanswered, numbered, all_stand, all_unanswered, all_kept, told_then}
use Rattle.resumption.specs.Noted.{passed_all, handled_all, noted}
use Rattle.resumption.proofs.Lists.{taken_more, flat_push, each_push}

-- ---- desks

-- as many desks as workers
pub as_many : {D : Type 0} (seen : D → Option Standing) (worked : Worked) (done : List Account) (desks : List D)
    → map seen desks ≡ map (λ s. Some s) (all_stand worked done) → length desks ≡ length done
as_many seen worked done desks held =
    sym (length-map desks seen)
    ∙ ap length held
    ∙ length-map (all_stand worked done) (λ s. Some s)
    ∙ length-map (numbered done) (λ n. stands worked n.0 n.1)
    ∙ length-enumerate_from 0 done

-- one desk more
pub stands_more : {D : Type 0} (seen : D → Option Standing) (worked : Worked) (done : List Account) (a : Account) (desks after : List D)
    → map seen desks ≡ map (λ s. Some s) (all_stand worked done)
    → map seen after ≡ map seen desks ++ Some (stands worked (length desks) a) ∷ []
    → map seen after ≡ map (λ s. Some s) (all_stand worked (done ++ a ∷ []))
stands_more seen worked done a desks after held new =
    new
    ∙ ap (λ (l : List (Option Standing)). l ++ Some (stands worked (length desks) a) ∷ []) held
    ∙ ap (λ (n : ℕ). map (λ s. Some s) (all_stand worked done) ++ Some (stands worked n a) ∷ []) (as_many seen worked done desks held)
    ∙ sym (map-append (λ s. Some s) (all_stand worked done) (stands worked (length done) a ∷ []))
    ∙ ap (map (λ s. Some s)) (sym (each_push (λ n. stands worked n.0 n.1) done a (length done) refl))

pub unanswered_more : (worked : Worked) (done : List Account) (a : Account) (n : ℕ) (outs after : List Out)
    → n ≡ length done → outs ≡ all_unanswered worked done → after ≡ outs ++ unanswered worked n a → after ≡ all_unanswered worked (done ++ a ∷ [])
unanswered_more worked done a n outs after is held new =
    new
    ∙ ap (λ (l : List Out). l ++ unanswered worked n a) held
    ∙ ap (λ (i : ℕ). all_unanswered worked done ++ unanswered worked i a) is
    ∙ sym (flat_push (λ m. unanswered worked m.0 m.1) done a (length done) refl)

-- ---- one worker

abbrev tell : Kept → Event → Kept
tell k e = told_event e k

-- what is kept where a worker behind these is kept so, and these bytes wait
abbrev state : List Kept → List Kept → List ℕ → Kept → State
state before after current k = record { workers = before ++ k ∷ after; current = current; next = []; booked = None }

abbrev with_workers : List ℕ → List Kept → State
with_workers current workers = record { workers = workers; current = current; next = []; booked = None }

get_at : (before after : List Kept) (k : Kept) → slice_get (before ++ k ∷ after) (length before) ≡ Some k
get_at [] after k = refl
get_at (j ∷ before) after k = get_at before after k

at_it : (before after : List Kept) (current : List ℕ) (k : Kept) (change : Kept → State)
    → at_worker (length before) change (state before after current k) ≡ change k
at_it before after current k change = ap (λ (o : Option Kept). option_map_or change o (state before after current k)) (get_at before after k)

passed_one : (before after : List Kept) (current : List ℕ) (k : Kept) (e : Event)
    → after_passed (length before) e (state before after current k) ≡ state before after current (told_event e k)
passed_one before after current k e =
    at_it before after current k (with_worker (length before) (told_event e) (state before after current k))
    ∙ ap (with_workers current) (set_at before k after (told_event e k) (length before) refl)

passed_many : (before after : List Kept) (es : List Event) (current : List ℕ) (k : Kept)
    → passed_all (length before) es (state before after current k) ≡ state before after current (fold tell k es)
passed_many before after [] current k = refl
passed_many before after (e ∷ es) current k =
    ap (passed_all (length before) es) (passed_one before after current k e) ∙ passed_many before after es current (told_event e k)

handled_one : (before after : List Kept) (current : List ℕ) (k : Kept) (e : Event)
    → after_handled (length before) e (state before after current k) ≡ state before after (current ++ written (Handled (length before) e)) (told_event e k)
handled_one before after current k e =
    at_it before after current k (with_handled (length before) e (state before after current k))
    ∙ ap (with_workers (current ++ written (Handled (length before) e))) (set_at before k after (told_event e k) (length before) refl)

abbrev bytes_of : ℕ → List Event → List ℕ
bytes_of w es = flat_map (λ e. written (Handled w e)) es

handled_many : (before after : List Kept) (es : List Event) (current : List ℕ) (k : Kept)
    → handled_all (length before) es (state before after current k) ≡ state before after (current ++ bytes_of (length before) es) (fold tell k es)
handled_many before after [] current k = ap (λ (c : List ℕ). state before after c k) (sym (append-nil current))
handled_many before after (e ∷ es) current k =
    ap (handled_all (length before) es) (handled_one before after current k e)
    ∙ handled_many before after es (current ++ written (Handled (length before) e)) (told_event e k)
    ∙ ap (λ (c : List ℕ). state before after c (fold tell (told_event e k) es)) (append_assoc current (written (Handled (length before) e)) (bytes_of (length before) es))

caught_one : (before after : List Kept) (current : List ℕ) (k : Kept) → after_catching_up (length before) (state before after current k) ≡ state before after current (caught_up k)
caught_one before after current k =
    at_it before after current k (with_worker (length before) caught_up (state before after current k))
    ∙ ap (with_workers current) (set_at before k after (caught_up k) (length before) refl)

noted_one : (before after : List Kept) (a : Account) (current : List ℕ)
    → noted (length before) a (state before after current (kept_from (told_then a))) ≡ state before after (current ++ lines_written (length before) a) (kept_then a)
noted_one before after a current =
    let w = length before in
    let k = kept_from (told_then a) in
    let then = fold tell k a.events in
    ap (λ (s : State). after_catching_up w (handled_all w (lines_of a) s)) (passed_many before after a.events current k)
    ∙ ap (after_catching_up w) (handled_many before after (lines_of a) current then)
    ∙ caught_one before after (current ++ lines_written w a) (fold tell then (lines_of a))
    ∙ ap (λ (j : Kept). state before after (current ++ lines_written w a) (caught_up j)) (sym (fold-append tell k a.events (lines_of a)))

-- ---- one worker more

abbrev pub first_kept : Account → Kept
first_kept a = kept_from (told_then a)

abbrev pub all_lines : List Account → List ℕ
all_lines accounts = flat_map (λ n. lines_written n.0 n.1) (numbered accounts)

-- where these are noted, and the rest isn't
abbrev pub so_far : List Account → List Account → State
so_far done rest = record { workers = map kept_then done ++ map first_kept rest; current = all_lines done; next = []; booked = None }

noted_more : (done rest : List Account) (a : Account) → noted (length done) a (so_far done (a ∷ rest)) ≡ so_far (done ++ a ∷ []) rest
noted_more done rest a =
    let before = map kept_then done in
    let after = map first_kept rest in
    let many : length before ≡ length done = length-map done kept_then in
    ap (λ (n : ℕ). noted n a (so_far done (a ∷ rest))) (sym many)
    ∙ noted_one before after a (all_lines done)
    ∙ ap (λ (n : ℕ). state before after (all_lines done ++ lines_written n a) (kept_then a)) many
    ∙ ap (λ (c : List ℕ). state before after c (kept_then a)) (sym (flat_push (λ n. lines_written n.0 n.1) done a (length done) refl))
    ∙ ap (with_workers (all_lines (done ++ a ∷ []))) (sym (append_assoc before (kept_then a ∷ []) after) ∙ ap (λ (ks : List Kept). ks ++ after) (sym (map-append kept_then done (a ∷ []))))

pub kept_more : (done rest more : List Account) (a : Account) (n : ℕ) (keeper after : State) → n ≡ length done → more ≡ a ∷ rest
    → keeper ≡ so_far done more → after ≡ noted n a keeper → after ≡ so_far (done ++ a ∷ []) rest
kept_more done rest more a n keeper after is steps held new =
    new
    ∙ ap (λ (i : ℕ). noted i a keeper) is
    ∙ ap (noted (length done) a) (held ∙ ap (so_far done) steps)
    ∙ noted_more done rest a

-- all are noted
pub kept_all : (done rest accounts : List Account) (keeper : State) → rest ≡ [] → done ++ rest ≡ accounts → keeper ≡ so_far done rest → keeper ≡ all_kept accounts
kept_all done rest accounts keeper none whole held =
    let all : done ≡ accounts = sym (append-nil done) ∙ ap (λ (l : List Account). done ++ l) (sym none) ∙ whole in
    held
    ∙ ap (so_far done) none
    ∙ ap (with_workers (all_lines done)) (append-nil (map kept_then done))
    ∙ ap all_kept all

-- ---- one event more

pub passed_more : (w : ℕ) (es : List Event) (i : ℕ) (e : Event) (s t u : State) → i < length es → e ≡ get_or es i e
    → t ≡ passed_all w (take i es) s → u ≡ after_passed w e t → u ≡ passed_all w (take (i + 1) es) s
passed_more w es i e s t u below is held new =
    new
    ∙ ap (after_passed w e) held
    ∙ sym (fold-append (λ (x : State) y. after_passed w y x) s (take i es) (e ∷ []))
    ∙ ap (λ (l : List Event). passed_all w l s) (sym (taken_more es i e below is))

pub handled_more : (w : ℕ) (lines : List MailChange) (i : ℕ) (m copy : MailChange) (s t u : State) → i < length lines → m ≡ get_or lines i m → copy ≡ m
    → t ≡ handled_all w (map (λ c. event.Mail c) (take i lines)) s → u ≡ after_handled w (event.Mail copy) t
    → u ≡ handled_all w (map (λ c. event.Mail c) (take (i + 1) lines)) s
handled_more w lines i m copy s t u below is same held new =
    new
    ∙ ap (λ (c : MailChange). after_handled w (event.Mail c) t) same
    ∙ ap (after_handled w (event.Mail m)) held
    ∙ sym (fold-append (λ (x : State) y. after_handled w y x) s (map (λ c. event.Mail c) (take i lines)) (event.Mail m ∷ []))
    ∙ ap (λ (l : List Event). handled_all w l s) (sym (map-append (λ c. event.Mail c) (take i lines) (m ∷ [])))
    ∙ ap (λ (l : List MailChange). handled_all w (map (λ c. event.Mail c) l) s) (sym (taken_more lines i m below is))

-- ---- at first

mapped : (accounts : List Account) → map kept_from (map told_then accounts) ≡ map first_kept accounts
mapped [] = refl
mapped (a ∷ accounts) = ap (λ (ks : List Kept). first_kept a ∷ ks) (mapped accounts)

pub kept_none : (accounts : List Account) (told : List Told) (keeper : State) → told ≡ map told_then accounts → keeper ≡ first told → keeper ≡ so_far [] accounts
kept_none accounts told keeper told_is is = is ∙ ap first told_is ∙ ap (with_workers []) (mapped accounts)
