use Rattle.std.proofs.Common.{◌≡◌, ◌∙◌, ℕ, ◌+◌, [], ◌∷◌, ◌++◌, refl, ap, sym, map, option_map, option_to_list, arith}
use Rattle.std.proofs.lemmas.List.{append-nil}
use Rattle.sip_write.specs.Answer.{answer_text}
use Rattle.notifier_model.specs.declared.event.Out.TheVariants.{Answer}
use Rattle.notifier_model.specs.Answers.{birth_answer, ring_with}
use Rattle.notifier_model.specs.Book.{first_boxes, first_gone, first_told, first_word, telling}
use Rattle.notifier_model.specs.Out.{out_of}
use Rattle.notifier_model.specs.Rows.{Turned}
use Rattle.notifier_model.specs.declared.birth.Newborn.{Newborn}
use Rattle.notifier.specs.Ledger.{book_of}
use Rattle.notifier.specs.Stored.{rows_of}
use Rattle.notifier.specs.Transactions.{key_of}
use Rattle.notifier.proofs.Births.{refers_of, kind_refers}
use Rattle.notifier.proofs.FirstTurns.{told_once, told_never}
use Rattle.notifier.proofs.Owned.{own_later}
use Rattle.notifier.proofs.Steps.{plain_step, no_word}
use Rattle.notifier.proofs.store.Ledger.bear.Goals as goal

pub begin-requires-clause-sound : goal.begin-requires-clause-sound
begin-requires-clause-sound g c = λ κs lives. record {
  clock_fits = c.requires.sound.clock_fits;
  next_begins = c.requires.sound.next_begins;
  next_fits = c.requires.sound.next_fits;
  rows_indexed = c.requires.sound.rows_indexed;
  rows_live = c.requires.sound.rows_live;
  rows_own = c.requires.sound.rows_own;
  rows_rise = c.requires.sound.rows_rise;
  ring_fits = ap (λ r. r.capacity) (c.in_ok-outs.ensures.ring c.args.pending.incoming.now.place.now.limits c.requires.sound.ring_fits) ∙ c.requires.sound.ring_fits;
}

pub begin-requires-in-Transfer-clause-sound : goal.begin-requires-in-Transfer-clause-sound
begin-requires-in-Transfer-clause-sound g c = λ κs lives. record {
  clock_fits = c.requires.sound.clock_fits;
  next_begins = c.requires.sound.next_begins;
  next_fits = c.requires.sound.next_fits;
  rows_indexed = c.requires.sound.rows_indexed;
  rows_live = c.requires.sound.rows_live;
  rows_own = c.requires.sound.rows_own;
  rows_rise = c.requires.sound.rows_rise;
  ring_fits = ap (λ r. r.capacity) (c.in_ok-outs.ensures.ring c.args.pending.incoming.now.place.now.limits c.requires.sound.ring_fits) ∙ c.requires.sound.ring_fits;
}

pub start-requires : goal.start-requires
start-requires g c = kind_refers c.args.pending.incoming.now.place.now.limits c.args.pending.incoming.now.request.now c.args.kind c.requires.kind ∙ ap refers_of c.in-Transfer.is

pub start-requires-in-Unwatched : goal.start-requires-in-Unwatched
start-requires-in-Unwatched g c = kind_refers c.args.pending.incoming.now.place.now.limits c.args.pending.incoming.now.request.now c.args.kind c.requires.kind ∙ ap refers_of c.in-Unwatched.is

pub returns-in_ok-begin-in-Watch-clause-step : goal.returns-in_ok-begin-in-Watch-clause-step
unfolding first_boxes first_gone
returns-in_ok-begin-in-Watch-clause-step g c =
    let place = c.args.pending.incoming.now.place.now in
    let before = book_of g.P.Package.seen c.args.self.now in
    let source = c.args.pending.incoming.now.source in
    let r = c.args.pending.incoming.now.request.now in
    let n : Newborn = record { kind = c.args.kind; serial = c.args.self.now.next; tag = c.in_ok-tag.tag } in
    let bytes = answer_text (birth_answer place source r n.tag) in
    let told = first_told (telling place before) source r n in
    let made = c.in_ok-begin-in-Watch.ensures in
    let ring = ap (λ k. k.items) (made.same.2 ∙ c.in_ok-outs.ensures.ring place.limits c.requires.sound.ring_fits)
    ∙ ap (ring_with place.limits before.ring (option_map key_of c.args.pending.transaction)) c.in_ok-bytes.ensures
    ∙ ap (λ k. ring_with place.limits before.ring k bytes) c.args.pending.named in
    let outs = made.outs ∙ ap (λ l. l ++ map out_of told.notifies) (c.in_ok-outs.ensures.outs ∙ ap (λ b. Answer source b ∷ []) c.in_ok-bytes.ensures) in
    let no_refer = kind_refers place.limits r c.args.kind c.requires.kind ∙ ap refers_of c.in-Watch.is in
    plain_step place before source r n _ _ _ _ _ _ (ap (first_boxes before.boxes n.tag) c.in-Watch.is) (λ ends. ap (λ k. first_gone n.tag k ends) c.in-Watch.is)
    c.in_ok-tag.ensures refl made.same.0 made.same.1 made.rows (ap (λ x. map g.P.Package.seen x.items) made.same.3) ring
    (outs ∙ sym (append-nil (Answer source bytes ∷ map out_of told.notifies))
    ∙ ap (λ w. (Answer source bytes ∷ map out_of told.notifies) ++ map out_of w) (sym (no_word n.tag r no_refer)))

pub returns-in_ok-fetch-in-Fetch-clause-step : goal.returns-in_ok-fetch-in-Fetch-clause-step
unfolding first_boxes first_gone
returns-in_ok-fetch-in-Fetch-clause-step g c =
    let place = c.args.pending.incoming.now.place.now in
    let before = book_of g.P.Package.seen c.args.self.now in
    let source = c.args.pending.incoming.now.source in
    let r = c.args.pending.incoming.now.request.now in
    let n : Newborn = record { kind = c.args.kind; serial = c.args.self.now.next; tag = c.in_ok-tag.tag } in
    let bytes = answer_text (birth_answer place source r n.tag) in
    let told = first_told (telling place before) source r n in
    let ring = ap (λ k. k.items) (c.in_ok-outs.ensures.ring place.limits c.requires.sound.ring_fits)
    ∙ ap (ring_with place.limits before.ring (option_map key_of c.args.pending.transaction)) c.in_ok-bytes.ensures
    ∙ ap (λ k. ring_with place.limits before.ring k bytes) c.args.pending.named in
    let outs = c.in_ok-fetch-in-Fetch.ensures.outs ∙ ap (λ l. l ++ map out_of told.notifies) (c.in_ok-outs.ensures.outs ∙ ap (λ b. Answer source b ∷ []) c.in_ok-bytes.ensures) in
    let no_refer = kind_refers place.limits r c.args.kind c.requires.kind ∙ ap refers_of c.in-Fetch.is in
    plain_step place before source r n _ _ _ _ _ _ (ap (first_boxes before.boxes n.tag) c.in-Fetch.is) (λ ends. ap (λ k. first_gone n.tag k ends) c.in-Fetch.is)
    c.in_ok-tag.ensures refl refl refl
    (sym (append-nil before.rows) ∙ ap (λ (w : Turned). before.rows ++ option_to_list w.row) (sym (told_once (telling place before) source r n c.in-Fetch.is)))
    refl ring
    (outs ∙ sym (append-nil (Answer source bytes ∷ map out_of told.notifies))
    ∙ ap (λ w. (Answer source bytes ∷ map out_of told.notifies) ++ map out_of w) (sym (no_word n.tag r no_refer)))

pub returns-in_ok-fetch-in-Fetch-clause-sound : goal.returns-in_ok-fetch-in-Fetch-clause-sound
returns-in_ok-fetch-in-Fetch-clause-sound g c =
    let place = c.args.pending.incoming.now.place.now in record {
      clock_fits = c.requires.sound.clock_fits;
      next_begins = omega arith;
      next_fits = let room = c.requires.room in let serials = c.are_in_range.ensures.serials in omega arith;
      rows_indexed = c.requires.sound.rows_indexed;
      rows_live = c.requires.sound.rows_live;
      rows_own = own_later place c.args.self.now.next (rows_of c.args.self.now.rows) c.requires.sound.rows_own;
      rows_rise = c.requires.sound.rows_rise;
      ring_fits = ap (λ r. r.capacity) (c.in_ok-outs.ensures.ring place.limits c.requires.sound.ring_fits) ∙ c.requires.sound.ring_fits;
    }

pub returns-in_ok-start-in-Unwatched-clause-step : goal.returns-in_ok-start-in-Unwatched-clause-step
unfolding first_boxes first_gone
returns-in_ok-start-in-Unwatched-clause-step g c =
    let place = c.args.pending.incoming.now.place.now in
    let before = book_of g.P.Package.seen c.args.self.now in
    let source = c.args.pending.incoming.now.source in
    let r = c.args.pending.incoming.now.request.now in
    let n : Newborn = record { kind = c.args.kind; serial = c.args.self.now.next; tag = c.in_ok-tag.tag } in
    let bytes = answer_text (birth_answer place source r n.tag) in
    let never = told_never (telling place before) source r n c.in-Unwatched.is in
    let ring = ap (λ k. k.items) (c.in_ok-outs.ensures.ring place.limits c.requires.sound.ring_fits)
    ∙ ap (ring_with place.limits before.ring (option_map key_of c.args.pending.transaction)) c.in_ok-bytes.ensures
    ∙ ap (λ k. ring_with place.limits before.ring k bytes) c.args.pending.named in
    plain_step place before source r n _ _ _ _ _ _ (ap (first_boxes before.boxes n.tag) c.in-Unwatched.is) (λ ends. ap (λ k. first_gone n.tag k ends) c.in-Unwatched.is)
    c.in_ok-tag.ensures refl refl refl
    (sym (append-nil before.rows) ∙ ap (λ (w : Turned). before.rows ++ option_to_list w.row) (sym never))
    refl ring
    (c.in_ok-start-in-Unwatched.ensures
    ∙ ap (λ l. l ++ map out_of (first_word n.tag r)) (c.in_ok-outs.ensures.outs ∙ ap (λ b. Answer source b ∷ []) c.in_ok-bytes.ensures)
    ∙ ap (λ (w : Turned). (Answer source bytes ∷ map out_of w.notifies) ++ map out_of (first_word n.tag r)) (sym never))

pub returns-in_ok-start-in-Unwatched-clause-sound : goal.returns-in_ok-start-in-Unwatched-clause-sound
returns-in_ok-start-in-Unwatched-clause-sound g c =
    let place = c.args.pending.incoming.now.place.now in record {
      clock_fits = c.requires.sound.clock_fits;
      next_begins = omega arith;
      next_fits = let room = c.requires.room in let serials = c.are_in_range.ensures.serials in omega arith;
      rows_indexed = c.requires.sound.rows_indexed;
      rows_live = c.requires.sound.rows_live;
      rows_own = own_later place c.args.self.now.next (rows_of c.args.self.now.rows) c.requires.sound.rows_own;
      rows_rise = c.requires.sound.rows_rise;
      ring_fits = ap (λ r. r.capacity) (c.in_ok-outs.ensures.ring place.limits c.requires.sound.ring_fits) ∙ c.requires.sound.ring_fits;
    }
