-- What was kept of what was got.
use Rattle.std.proofs.Common.{◌≡◌, ⊎_elim, ℕ, ◌+◌, ◌<◌, Bool, true, if◌then◌else◌, eq-eqb, List, [], ◌∷◌, ◌++◌, length, refl, ap, sym, ◌∙◌, subst, arith}
use Rattle.std.specs.Prelude.{◌==◌}
use Rattle.std.proofs.lemmas.List.{append-nil}
use Rattle.std.proofs.lemmas.Bool.{ne_eqb}
use Rattle.std.proofs.lemmas.Bool.Decides.{eqb_tells}
use Rattle.queues.specs.declared.items.Item.{Item}
use Rattle.queues.specs.Items.{items_of}
use Rattle.queues.specs.Values.{values, value_item, end_item}
use Rattle.queues.proofs.ItemLists.{items_of-append, items_of_same, items_of_other}
use Rattle.notifier_model.specs.declared.event.Out.{Out}
use Rattle.queues.specs.OutboxSeats.{TakerSeat}
use Rattle.queues.specs.OutboxTook.{Took}
use Rattle.queues.specs.declared.outbox.Posted.TheVariants as posted
use Rattle.crew.proofs.Folds.{values-append}
use Rattle.crew.proofs.Keeping.{Taking, taking_out, taking_end}
use Rattle.server.specs.declared.work.Work.{Work}
use Rattle.server.specs.Gathering.{AreNew, Keeps, AreKept}

-- ---- one item more

one_out : (k worker : ℕ) (out : Out) → values (items_of k (value_item worker out ∷ [])) ≡ (if worker == k then out ∷ [] else [])
one_out k worker out =
    ⊎_elim
    (λ e. ap values (items_of_same k (value_item worker out) e.1) ∙ rw (eq-eqb worker k e.1) refl)
    (λ e. ap values (items_of_other k (value_item worker out) e.1) ∙ rw (ne_eqb worker k e.1) refl)
    (eqb_tells worker k)

one_end : (k worker : ℕ) → values (items_of k (end_item {T = Out} worker ∷ [])) ≡ []
one_end k worker =
    ⊎_elim
    (λ e. ap values (items_of_same k (end_item {T = Out} worker) e.1))
    (λ e. ap values (items_of_other k (end_item {T = Out} worker) e.1))
    (eqb_tells worker k)

got_more : (k : ℕ) (got : List (Item Out)) (item : Item Out) → values (items_of k (got ++ item ∷ [])) ≡ values (items_of k got) ++ values (items_of k (item ∷ []))
got_more k got item = ap values (items_of-append k got (item ∷ [])) ∙ values-append (items_of k got) (items_of k (item ∷ []))

kept_out : (t u : TakerSeat) (worker : ℕ) (out : Out) (old new : List Work) → Took t (posted.Out worker out) u → length new ≡ length old → Keeps worker out old new
    → AreKept t.got old → AreKept u.got new
kept_out t u worker out old new took len keeps was = record {
  each = λ k work low.
      let inside : k < length old = subst (λ n. k < n) len low in
      let more = keeps.each k work inside in
      let before = was.each k work inside in (
        more.0 ∙ before.0,
        more.1
            ∙ ap (λ (l : List Out). l ++ (if worker == k then out ∷ [] else [])) before.1
            ∙ ap (λ (l : List Out). values (items_of k t.got) ++ l) (sym (one_out k worker out))
            ∙ sym (got_more k t.got (value_item worker out))
            ∙ ap (λ (x : TakerSeat). values (items_of k x.got)) (sym took.0),
      );
}

kept_end : (t u : TakerSeat) (worker : ℕ) (works : List Work) → Took t (posted.Ended worker) u → AreKept t.got works → AreKept u.got works
kept_end t u worker works took was = record {
  each = λ k work low.
      let before = was.each k work low in (
        before.0,
        before.1
            ∙ sym (append-nil (values (items_of k t.got)))
            ∙ ap (λ (l : List Out). values (items_of k t.got) ++ l) (sym (one_end k worker))
            ∙ sym (got_more k t.got (end_item worker))
            ∙ ap (λ (x : TakerSeat). values (items_of k x.got)) (sym took.0),
      );
}

-- ---- the taker, and what it kept so far

pub record Gathers (t0 t : TakerSeat) (left : ℕ) (is_whole : Bool) (works0 works : List Work) : Type 0 where
  pub taking : Taking t0 t left
  pub workers : length works0 ≡ t0.workers
  pub len : length works ≡ length works0
  pub kept : is_whole ≡ true → AreKept t.got works

pub gathers_first : (t : TakerSeat) (left : ℕ) (works : List Work) → Taking t t left → t.got ≡ [] → AreNew t.workers works → Gathers t t left true works works
gathers_first t left works taking none new = record {
  taking = taking;
  workers = new.len;
  len = refl;
  kept = λ _. record {
    each = λ k work low.
        let are = new.each k work (let l = new.len in omega arith) in
        (are.0, are.1 ∙ ap (λ (got : List (Item Out)). values (items_of k got)) (sym none));
  };
}

module _ {t0 t u : TakerSeat} {left : ℕ} {is_whole : Bool} {works0 works : List Work} (was : Gathers t0 t left is_whole works0 works) where
  pub gathers_out : (worker : ℕ) (out : Out) (is_kept is_now : Bool) (new : List Work) → Took t (posted.Out worker out) u → length new ≡ length works
      → (is_kept ≡ true → Keeps worker out works new) → (is_now ≡ true → (is_whole ≡ true) × (is_kept ≡ true)) → Gathers t0 u left is_now works0 new
  gathers_out worker out is_kept is_now new took len keeps both = record {
    taking = taking_out t0 t u left worker out was.taking took;
    workers = was.workers;
    len = len ∙ was.len;
    kept = λ now. kept_out t u worker out works new took len (keeps (both now).1) (was.kept (both now).0);
  }

  pub gathers_end : (left' worker : ℕ) → Took t (posted.Ended worker) u → left' + 1 ≡ left → Gathers t0 u left' is_whole works0 works
  gathers_end left' worker took one = record {
    taking = taking_end t0 t u left left' worker was.taking took one;
    workers = was.workers;
    len = was.len;
    kept = λ whole. kept_end t u worker works took (was.kept whole);
  }

  -- an out is of one of the workers
  pub out_below : (worker : ℕ) (out : Out) → Took t (posted.Out worker out) u → worker < length works
  out_below worker out took =
      let low = took.1.0 in let count = was.taking.workers in let size = was.workers in let len = was.len in omega arith
