-- Records are read again, each by itself.
use Rattle.std.proofs.Common.{◌≡◌, ◌∙◌, ℕ, ◌<◌, Bool, true, false, cond, List, [], ◌∷◌, ◌++◌, length, drop, Option, Some, None, eqb, refl, sym, ap, subst, append_assoc, ◌^◌, arith}
use Rattle.std.specs.Prelude.{nat_eq}
use Rattle.std.specs.List.{starts_with}
use Rattle.std.proofs.lemmas.Bool.Decides.{nat_tests}
use Rattle.std.proofs.lemmas.Bool.{eqb-true}
use Rattle.sip_text.specs.Reading.{◌>>=◌}
use Rattle.sip_text.proofs.Cuts.{test_some}
use Rattle.sip_text.proofs.Pieces.{bind_some, some_is, and_both}
use Rattle.notifier_model.specs.declared.event.Event.{Event}
use Rattle.notifier_model.specs.declared.saved.Saved.{Saved}
use Rattle.snapshots.specs.Forms.{IsForm}
use Rattle.snapshots.specs.Books.{IsSaved, saved_text, saved_at, book_text, behind, first_line}
use Rattle.snapshots.proofs.Forms.{number_form, count_form, bytes_form, text_form, address_form, both_form, IsMade, made_form, form_under, list_form}
use Rattle.snapshots.proofs.Choices.{pick, case_again, case_takes}
use Rattle.snapshots.proofs.Books.{behind_again, saved_form}
use Rattle.snapshots.proofs.Changes.{mail_form, progress_form}
use Rattle.snapshots.proofs.Events.{event_form}
use Rattle.journal.specs.declared.header.Header.{Header}
use Rattle.journal.specs.declared.record.Told.{Told}
use Rattle.journal.specs.declared.record.Book.{Book}
use Rattle.journal.specs.declared.record.Line.{Line}
use Rattle.journal.specs.declared.record.Clock.{Clock}
use Rattle.journal.specs.declared.record.Record.{Record}
use Rattle.journal.specs.declared.record.Record.TheVariants.{Header as First, Book as Had, Handled, Line as Answered, Clock as Shown}
use Rattle.journal.specs.Records.{HeaderParts, seed_of, header_of, header_at, header_text, IsHeader, ToldParts, told_of, told_at, told_text, IsTold, desk_at, BookParts, had_of, had_at, had_text, IsHad, LineParts, line_of, line_at, line_text, IsLine, clock_of, clock_at, clock_text, IsClock, first_at, book_at, handled_at, answered_at, shown_at, record_text, record_at, IsWhole}

-- ---- what a file begins with

header_parts : Header → HeaderParts
header_parts h = (h.version, (h.workers, (h.seed, (h.listen, (h.contact, h.boot)))))

abbrev header_with : HeaderParts → List ℕ → Header
header_with p seed = record { version = p.0; workers = p.1.0; seed = seed; listen = p.1.1.1.0; contact = p.1.1.1.1.0; boot = p.1.1.1.1.1 }

header_made : IsMade header_of header_parts (λ h. length h.seed ≡ 32)
unfolding header_of header_parts seed_of
header_made = record { made = made; again = again } where
  made : (a : HeaderParts) (b : Header) → (seed_of a.1.1.0 >>= λ seed. Some (header_with a seed)) ≡ Some b → (header_parts b ≡ a) × (length b.seed ≡ 32)
  made a b e =
      let p = bind_some (seed_of a.1.1.0) (λ (seed : List ℕ). Some (header_with a seed)) b e in
      let k = test_some (eqb (length a.1.1.0) 32) a.1.1.0 p.0 p.1 in
      let whole : header_with a a.1.1.0 ≡ b = ap (header_with a) k.1 ∙ some_is (header_with a p.0) b p.2 in
      (sym (ap header_parts whole), subst (λ (h : Header). length h.seed ≡ 32) whole (eqb-true (length a.1.1.0) 32 k.0))

  again : (b : Header) → length b.seed ≡ 32 → (seed_of b.seed >>= λ seed. Some (header_with (header_parts b) seed)) ≡ Some b
  again b h = rw h refl

few : (w : List ℕ) → length w ≡ 32 → length w < 2 ^ 64
few w e = omega (arith, e)

header_form : IsForm header_text IsHeader header_at
unfolding header_at header_parts
header_form =
    form_under _ _ _ _
    (λ h k. record { version = k.0.0; workers = k.0.1.0; seed = k.1; listen = k.0.1.1.1.0; contact = k.0.1.1.1.1.0; boot = k.0.1.1.1.1.1 })
    (λ h k. ((k.version, (k.workers, (few h.seed k.seed, (k.listen, (k.contact, k.boot))))), k.seed))
    (made_form header_made (both_form text_form (both_form count_form (both_form bytes_form (both_form address_form (both_form address_form text_form))))))

-- ---- books

told_parts : Told → ToldParts
told_parts t = (t.events, (t.mails, (t.mail, t.progress)))

told_made : IsMade told_of told_parts (λ t. Unit {0})
unfolding told_parts
told_made = record { made = λ a b e. (sym (ap told_parts (some_is _ b e)), tt); again = λ b h. refl }

pub told_form : IsForm told_text IsTold told_at
unfolding told_at told_parts
told_form =
    form_under _ _ _ _
    (λ t h. record { events = h.0.0; mails = h.0.1.0; mail = h.0.1.1.0; progress = h.0.1.1.1 })
    (λ t h. ((h.events, (h.mails, (h.mail, h.progress))), tt))
    (made_form told_made (both_form number_form (both_form number_form (both_form (list_form _ _ _ mail_form) (list_form _ _ _ progress_form)))))

desk_again : (s : Saved) (rest : List ℕ) → IsSaved s → desk_at (book_text s ++ rest) ≡ Some (s, rest)
unfolding desk_at
desk_again s rest h =
    let whole : book_text s ++ rest ≡ first_line ++ (saved_text s ++ rest) = append_assoc first_line (saved_text s) rest in
    let line : behind (book_text s ++ rest) ≡ Some (saved_text s ++ rest) = ap behind whole ∙ behind_again (saved_text s ++ rest) in
    rw line (saved_form.again s rest h)

begins_with : (p t : List ℕ) → starts_with nat_eq t p ≡ true → t ≡ p ++ drop (length p) t
begins_with [] t e = refl
begins_with (x ∷ xs) [] e = absurd (cc)
begins_with (x ∷ xs) (y ∷ ys) e =
    let both = and_both (nat_eq x y) (starts_with nat_eq ys xs) e in
    let here : y ≡ x = (let h = both.0 in grind (arith, nat_tests)) in
    let rest = begins_with xs ys both.1 in
    ap (λ (z : ℕ). z ∷ ys) here ∙ ap (λ (l : List ℕ). x ∷ l) rest

behind_takes : (t rest : List ℕ) → behind t ≡ Some rest → t ≡ first_line ++ rest
unfolding behind
behind_takes t rest e =
    let k = test_some (starts_with nat_eq t first_line) (drop 17 t) rest e in
    begins_with first_line t k.0 ∙ ap (λ (l : List ℕ). first_line ++ l) k.1

desk_takes : (t : List ℕ) (s : Saved) (rest : List ℕ) → desk_at t ≡ Some (s, rest) → (t ≡ book_text s ++ rest) × IsSaved s
unfolding desk_at
desk_takes t s rest e =
    let p = bind_some (behind t) saved_at (s, rest) e in
    let c = saved_form.takes p.0 s rest p.2 in
    (behind_takes t p.0 p.1 ∙ ap (λ (l : List ℕ). first_line ++ l) c.0 ∙ sym (append_assoc first_line (saved_text s) rest), c.1)

desk_form : IsForm book_text IsSaved desk_at
desk_form = record { again = desk_again; takes = desk_takes }

had_parts : Book → BookParts
had_parts b = (b.worker, (b.told, b.saved))

had_made : IsMade had_of had_parts (λ b. Unit {0})
unfolding had_parts
had_made = record { made = λ a b e. (sym (ap had_parts (some_is _ b e)), tt); again = λ b h. refl }

had_form : IsForm had_text IsHad had_at
unfolding had_at had_parts
had_form =
    form_under _ _ _ _
    (λ b h. record { worker = h.0.0; told = h.0.1.0; saved = h.0.1.1 })
    (λ b h. ((h.worker, (h.told, h.saved)), tt))
    (made_form had_made (both_form count_form (both_form told_form desk_form)))

-- ---- control lines and clocks

line_parts : Line → LineParts
line_parts l = (l.worker, (l.number, l.change))

line_made : IsMade line_of line_parts (λ l. Unit {0})
unfolding line_parts
line_made = record { made = λ a b e. (sym (ap line_parts (some_is _ b e)), tt); again = λ b h. refl }

line_form : IsForm line_text IsLine line_at
unfolding line_at line_parts
line_form =
    form_under _ _ _ _
    (λ l h. record { worker = h.0.0; number = h.0.1.0; change = h.0.1.1 })
    (λ l h. ((h.worker, (h.number, h.change)), tt))
    (made_form line_made (both_form count_form (both_form number_form mail_form)))

clock_parts : Clock → ℕ × ℕ
clock_parts c = (c.tick, c.wall)

clock_made : IsMade clock_of clock_parts (λ c. Unit {0})
unfolding clock_parts
clock_made = record { made = λ a b e. (sym (ap clock_parts (some_is _ b e)), tt); again = λ b h. refl }

clock_form : IsForm clock_text IsClock clock_at
unfolding clock_at clock_parts
clock_form =
    form_under _ _ _ _ (λ c h. h.0) (λ c h. (h, tt))
    (made_form clock_made (both_form number_form number_form))

-- ---- records

abbrev handled_of : ℕ × Event → Record
handled_of p = Handled p.0 p.1

record_again : (r : Record) (rest : List ℕ) → IsWhole r → record_at (record_text r ++ rest) ≡ Some (r, rest)
unfolding record_at first_at book_at handled_at answered_at shown_at
record_again (First header) rest h = case_again (λ x. First x) record_text IsWhole header_form header rest h.fits
record_again (Had book) rest h = case_again (λ x. Had x) record_text IsWhole had_form book rest h.fits
record_again (Handled worker event) rest h = case_again handled_of record_text IsWhole (both_form count_form event_form) (worker, event) rest (h.fits.0, record { fits = h.fits.1; sound = h.sound })
record_again (Answered line) rest h = case_again (λ x. Answered x) record_text IsWhole line_form line rest h.fits
record_again (Shown clock) rest h = case_again (λ x. Shown x) record_text IsWhole clock_form clock rest h.fits

record_takes : (t : List ℕ) (v : Record) (rest : List ℕ) → record_at t ≡ Some (v, rest) → (t ≡ record_text v ++ rest) × IsWhole v
unfolding record_at first_at book_at handled_at answered_at shown_at
record_takes [] v rest e = absurd cc
record_takes (x ∷ xs) v rest e =
    pick x 104 _ _ (v, rest) e (λ is e. case_takes (λ h. First h) record_text IsWhole header_form x 104 xs v rest (λ h. refl) (λ h k. record { fits = k; sound = refl }) is e)
    (λ e. pick x 98 _ _ (v, rest) e (λ is e. case_takes (λ b. Had b) record_text IsWhole had_form x 98 xs v rest (λ b. refl) (λ b k. record { fits = k; sound = refl }) is e)
    (λ e. pick x 101 _ _ (v, rest) e (λ is e. case_takes handled_of record_text IsWhole (both_form count_form event_form) x 101 xs v rest (λ p. refl) (λ p k. record { fits = (k.0, k.1.fits); sound = k.1.sound }) is e)
    (λ e. pick x 108 _ _ (v, rest) e (λ is e. case_takes (λ l. Answered l) record_text IsWhole line_form x 108 xs v rest (λ l. refl) (λ l k. record { fits = k; sound = refl }) is e)
    (λ e. pick x 99 _ _ (v, rest) e (λ is e. case_takes (λ c. Shown c) record_text IsWhole clock_form x 99 xs v rest (λ c. refl) (λ c k. record { fits = k; sound = refl }) is e) (λ e. absurd cc)))))

pub record_form : IsForm record_text IsWhole record_at
record_form = record { again = record_again; takes = record_takes }
