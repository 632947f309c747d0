-- What the words say: what is found is so, what is so is found, and an error names what is wrong first.
use Rattle.std.proofs.Common.{◌≡◌, ℕ, ◌+◌, ◌≤◌, ◌<◌, Bool, true, false, cond, eqb, List, [], ◌∷◌, ◌++◌, length, take, drop, get_or, Option, Some, None, Result, Ok, Err, inl, inr, refl, sym, ap, subst, ◌∙◌, arith, append_assoc, length-append}
use Rattle.std.specs.Prelude.{codes, decimal, bytes_eq, ◌&&◌, not, IfOk, IfErr}
use Rattle.std.specs.List.{position_or_len, before_first, after_first}
use Rattle.std.proofs.lemmas.Bool.{eqb-true, eqb-false, ne_eqb}
use Rattle.std.proofs.lemmas.List.Sums.{split_at_first, passes_at_first, prefix_len-le-length}
use Rattle.std.proofs.Math.Seq.{take-append_seam, drop-append-add}
use Rattle.hex.specs.Hex.{decode_sized}
use Rattle.sip_text.specs.declared.address.Addr.{Addr}
use Rattle.sip_text.specs.Addresses.{addr_text, IsAddr}
use Rattle.sip_text.specs.Reading.{◌>>=◌, begins, addr_of, cut_at}
use Rattle.sip_text.proofs.Cuts.{Lacks, cut_takes, cut_again}
use Rattle.sip_text.proofs.Pieces.{bind_some, some_is, and_both, prefix_passes, prefix_again}
use Rattle.sip_text.proofs.Addresses.{addr_takes, addr_again, decimal_lacks}
use Rattle.package.specs.Texts.{is_word}
use Rattle.admission.specs.declared.bucket.Rate.{Rate}
use Rattle.admission.specs.declared.network.Network.{Network}
use Rattle.admission.specs.Networks.{network}
use Rattle.arguments.specs.declared.flag.Bound.{Bound}
use Rattle.arguments.specs.declared.flag.Bound.TheVariants as bound
use Rattle.arguments.specs.declared.flag.AddressFlag.{AddressFlag}
use Rattle.arguments.specs.declared.flag.AddressFlag.TheVariants as address
use Rattle.arguments.specs.declared.flag.Flag.{Flag}
use Rattle.arguments.specs.declared.flag.Flag.TheVariants as flag
use Rattle.arguments.specs.declared.guesses.Guesses.{Guesses}
use Rattle.arguments.specs.declared.switch.Switch.{Switch}
use Rattle.arguments.specs.declared.switch.Switch.TheVariants as switch
use Rattle.arguments.specs.declared.syncing.Syncing.{Syncing}
use Rattle.arguments.specs.declared.syncing.Syncing.TheVariants as syncing
use Rattle.arguments.specs.declared.setting.Setting.{Setting}
use Rattle.arguments.specs.declared.setting.Setting.TheVariants as setting
use Rattle.arguments.specs.declared.error.OptionsError.{OptionsError}
use Rattle.arguments.specs.declared.error.OptionsError.TheVariants as error
use Rattle.arguments.specs.Flags.{address_flag_text, bound_text, flag_text, switch_text, least, most}
use Rattle.arguments.specs.Settings.{is_user, has_no_colon, watched_text, IsRateNumber, rate_text, guesses_text, joined, AreOption, IsMailbox, IsSetting, AreSettings, BeginsWrong, AreWrong, Answers}
use Rattle.arguments.specs.Reading.{flag_named, joined_of, switch_of, or_bad, is_mailbox, is_colon, watch, watch_of, pair_of, rate_of, guesses_of, sync_of, valued, named, by_switch, by_joined, alone, then_more, by_flag, settings_from, Reads}
use Rattle.arguments.specs.Values.{seed_bytes, between}
use Rattle.arguments.proofs.Values.{between_takes, between_again, seed_takes, seed_again}
use Rattle.arguments.proofs.Flags.{same_text, flag_takes, flag_again, no_flag, joined_takes, joined_again, no_joined, joined_is_no_flag, switch_takes, switch_again, no_switch, switch_is_no_flag}

-- ---- numbers

most_is_small : (b : Bound) → most b ≤ 4294967295
most_is_small bound.Workers = omega arith
most_is_small bound.MinTime = omega arith
most_is_small bound.MaxTime = omega arith
most_is_small bound.DefaultTime = omega arith
most_is_small bound.ReferTime = omega arith
most_is_small bound.MaxCseq = omega arith
most_is_small bound.Table = omega arith
most_is_small bound.Serials = omega arith
most_is_small bound.Kept = omega arith
most_is_small bound.Inbox = omega arith
most_is_small bound.Outbox = omega arith
most_is_small bound.Repeats = omega arith
most_is_small bound.Open = omega arith
most_is_small bound.Linger = omega arith
most_is_small bound.Outage = omega arith
most_is_small bound.MaxDatagram = omega arith
most_is_small bound.ReceiveBuffer = omega arith
most_is_small bound.NonceTime = omega arith
most_is_small bound.PerSource = omega arith
most_is_small bound.JournalBytes = omega arith
most_is_small bound.MaxTexts = omega arith
most_is_small bound.MaxMailboxes = omega arith

-- ---- a rate, and guesses

slash_lacks : (n : ℕ) → n ≤ 65536 → Lacks 47 (decimal n)
slash_lacks n le = decimal_lacks 47 n refl (omega arith)

abbrev pair_text : ℕ × ℕ → List ℕ
pair_text p = decimal p.0 ++ 47 ∷ decimal p.1

numbers_take : (w : List ℕ) (p : ℕ × ℕ) → pair_of w ≡ Some p → IsRateNumber p.0 × IsRateNumber p.1 × (w ≡ pair_text p)
unfolding pair_of
numbers_take w p e =
    let a = bind_some (cut_at 47 w) (λ cut. between 1 65536 cut.0 >>= λ n. between 1 65536 cut.1 >>= λ m. Some (n, m)) p e in
    let b = bind_some (between 1 65536 a.0.0) (λ n. between 1 65536 a.0.1 >>= λ m. Some (n, m)) p a.2 in
    let c = bind_some (between 1 65536 a.0.1) (λ m. Some (b.0, m)) p b.2 in
    let cut = cut_takes 47 w a.0.0 a.0.1 a.1 in
    let n = between_takes 1 65536 a.0.0 b.0 b.1 in
    let m = between_takes 1 65536 a.0.1 c.0 c.1 in
    subst (λ (x : ℕ × ℕ). IsRateNumber x.0 × IsRateNumber x.1 × (w ≡ pair_text x)) (some_is {A = ℕ × ℕ} (b.0, c.0) p c.2)
    ((n.1, n.2), (m.1, m.2), cut.0 ∙ ap (λ (l : List ℕ). l ++ 47 ∷ a.0.1) n.0 ∙ ap (λ (l : List ℕ). decimal b.0 ++ 47 ∷ l) m.0)

numbers_again : (n m : ℕ) → IsRateNumber n → IsRateNumber m → pair_of (pair_text (n, m)) ≡ Some (n, m)
unfolding pair_of
numbers_again n m a b =
    rw (
      cut_again 47 (decimal n) (decimal m) (slash_lacks n a.1),
      between_again 1 65536 n a.0 a.1 (omega arith),
      between_again 1 65536 m b.0 b.1 (omega arith),
    ) refl

rate_takes : (w : List ℕ) (r : Rate) → rate_of w ≡ Some r → IsRateNumber r.per_second × IsRateNumber r.burst × (w ≡ rate_text r)
unfolding rate_of
rate_takes w r e =
    let p = bind_some (pair_of w) (λ p. Some (the p)) r e in
    subst (λ (x : Rate). IsRateNumber x.per_second × IsRateNumber x.burst × (w ≡ rate_text x)) (some_is (the p.0) r p.2) (numbers_take w p.0 p.1) where
      the : ℕ × ℕ → Rate
      the p = record { burst = p.1; per_second = p.0 }

rate_again : (r : Rate) → IsRateNumber r.per_second → IsRateNumber r.burst → rate_of (rate_text r) ≡ Some r
unfolding rate_of
rate_again r n b = rw (numbers_again r.per_second r.burst n b) refl

guesses_take : (w : List ℕ) (g : Guesses) → guesses_of w ≡ Some g → IsRateNumber g.burst × IsRateNumber g.per_minute × (w ≡ guesses_text g)
unfolding guesses_of
guesses_take w g e =
    let p = bind_some (pair_of w) (λ p. Some (the p)) g e in
    subst (λ (x : Guesses). IsRateNumber x.burst × IsRateNumber x.per_minute × (w ≡ guesses_text x)) (some_is (the p.0) g p.2) (numbers_take w p.0 p.1) where
      the : ℕ × ℕ → Guesses
      the p = record { burst = p.0; per_minute = p.1 }

guesses_again : (g : Guesses) → IsRateNumber g.burst → IsRateNumber g.per_minute → guesses_of (guesses_text g) ≡ Some g
unfolding guesses_of
guesses_again g b n = rw (numbers_again g.burst g.per_minute b n) refl

-- ---- how often a journal is written to the disk

sync_takes : (words : List (List ℕ)) (w : List ℕ) (s : Syncing) → sync_of w ≡ Some s → AreOption words (codes "--sync") w → IsSetting words (setting.Sync s)
unfolding sync_of
sync_takes words w s e are = step (bytes_eq w (codes "never")) (bytes_eq w (codes "always")) refl refl e where
  P : Syncing → Type 0
  P x = IsSetting words (setting.Sync x)

  step : (b c : Bool) → bytes_eq w (codes "never") ≡ b → bytes_eq w (codes "always") ≡ c
      → cond {A = Option Syncing} b (Some syncing.Never) (cond {A = Option Syncing} c (Some syncing.Always) (between 1 3600 w >>= λ n. Some (syncing.Each n))) ≡ Some s
      → IsSetting words (setting.Sync s)
  step true c is other k = subst P (some_is {A = Syncing} syncing.Never s k) (subst (AreOption words (codes "--sync")) (same_text w (codes "never") is) are)
  step false true other is k = subst P (some_is {A = Syncing} syncing.Always s k) (subst (AreOption words (codes "--sync")) (same_text w (codes "always") is) are)
  step false false is other k =
      let p = bind_some (between 1 3600 w) (λ n. Some (syncing.Each n)) s k in
      let n = between_takes 1 3600 w p.0 p.1 in
      subst P (some_is {A = Syncing} (syncing.Each p.0) s p.2) (n.1, n.2, subst (AreOption words (codes "--sync")) n.0 are)

-- a number is no word that has such a letter, which is no digit
no_word : (letter n : ℕ) (word : List ℕ) → Lacks letter (decimal n) → (Lacks letter word → ⊥) → bytes_eq (decimal n) word ≡ false
no_word letter n word lacks has = step (bytes_eq (decimal n) word) refl where
  step : (b : Bool) → bytes_eq (decimal n) word ≡ b → b ≡ false
  step false is = refl
  step true is = absurd (has (subst (Lacks letter) (same_text (decimal n) word is) lacks))

no_never : (n : ℕ) → n ≤ 3600 → bytes_eq (decimal n) (codes "never") ≡ false
no_never n le = no_word 110 n (codes "never") (decimal_lacks 110 n refl (omega arith)) clash where
  clash : false ≡ true → ⊥
  clash e = absurd cc

no_always : (n : ℕ) → n ≤ 3600 → bytes_eq (decimal n) (codes "always") ≡ false
no_always n le = no_word 97 n (codes "always") (decimal_lacks 97 n refl (omega arith)) clash where
  clash : false ≡ true → ⊥
  clash e = absurd cc

sync_again : (n : ℕ) → 1 ≤ n → n ≤ 3600 → sync_of (decimal n) ≡ Some (syncing.Each n)
unfolding sync_of
sync_again n high le = rw (no_never n le, no_always n le, between_again 1 3600 n high le (omega arith)) refl

-- ---- a further mailbox of a user

mailbox_is : (name : List ℕ) → is_mailbox name ≡ true → IsMailbox name
mailbox_is name e =
    let a = and_both (is_word name) (is_user name && not (begins 45 name)) e in
    let b = and_both (is_user name) (not (begins 45 name)) a.1 in
    record { word = a.0; user = b.0; no_option = undashed (begins 45 name) b.1 } where
      undashed : (b : Bool) → not b ≡ true → b ≡ false
      undashed true e = absurd cc
      undashed false e = refl

is_mailbox_again : (name : List ℕ) → IsMailbox name → is_mailbox name ≡ true
is_mailbox_again name h = rw (h.word, h.user, h.no_option) refl

watch_takes : (w user mailbox : List ℕ) → watch_of w ≡ Some (user, mailbox) → (has_no_colon user ≡ true) × IsMailbox mailbox × (w ≡ watched_text user mailbox)
unfolding watch_of
watch_takes w user mailbox e = step (eqb (position_or_len is_colon w) (length w)) refl e where
  by_name : position_or_len is_colon w < length w → (b : Bool) → is_mailbox (after_first is_colon w) ≡ b
      → cond {A = Option (List ℕ × List ℕ)} b (Some (before_first is_colon w, after_first is_colon w)) None ≡ Some (user, mailbox)
      → (has_no_colon user ≡ true) × IsMailbox mailbox × (w ≡ watched_text user mailbox)
  by_name below false is k = absurd cc
  by_name below true is k =
      let same = some_is {A = List ℕ × List ℕ} (before_first is_colon w, after_first is_colon w) (user, mailbox) k in
      let front : before_first is_colon w ≡ user = ap (λ (p : List ℕ × List ℕ). p.0) same in
      let rest : after_first is_colon w ≡ mailbox = ap (λ (p : List ℕ × List ℕ). p.1) same in
      let colon : get_or w (position_or_len is_colon w) 0 ≡ 58 = eqb-true (get_or w (position_or_len is_colon w) 0) 58 (passes_at_first is_colon w 0 below) in (
        subst (λ (u : List ℕ). has_no_colon u ≡ true) front (prefix_passes (λ b. not (is_colon b)) w),
        subst IsMailbox rest (mailbox_is (after_first is_colon w) is),
        split_at_first is_colon w 0 below
            ∙ ap (λ b. before_first is_colon w ++ b ∷ after_first is_colon w) colon
            ∙ ap (λ t. t ++ 58 ∷ after_first is_colon w) front
            ∙ ap (λ t. user ++ 58 ∷ t) rest,
      )

  step : (b : Bool) → eqb (position_or_len is_colon w) (length w) ≡ b → cond b None (watch (before_first is_colon w) (after_first is_colon w)) ≡ Some (user, mailbox)
      → (has_no_colon user ≡ true) × IsMailbox mailbox × (w ≡ watched_text user mailbox)
  step true is k = absurd cc
  step false is k =
      let most = prefix_len-le-length (λ b. not (is_colon b)) w in
      let other = eqb-false (position_or_len is_colon w) (length w) is in
      by_name (omega (arith, most, other)) (is_mailbox (after_first is_colon w)) refl k

watch_again : (user mailbox : List ℕ) → has_no_colon user ≡ true → IsMailbox mailbox → watch_of (watched_text user mailbox) ≡ Some (user, mailbox)
unfolding watch_of
watch_again user mailbox plain named =
    let whole = watched_text user mailbox in
    let place : position_or_len is_colon whole ≡ length user = prefix_again (λ b. not (is_colon b)) user (58 ∷ mailbox) plain refl in
    let other : eqb (position_or_len is_colon whole) (length whole) ≡ false = ne_eqb (position_or_len is_colon whole) (length whole) (λ e. omega (arith, e, place, length-append user (58 ∷ mailbox))) in
    let before : before_first is_colon whole ≡ user = ap (λ n. take n whole) place ∙ take-append_seam user (58 ∷ mailbox) in
    let after : after_first is_colon whole ≡ mailbox = ap (λ n. drop (n + 1) whole) place ∙ drop-append-add user (58 ∷ mailbox) 1 in
    ap (λ b. cond b None (watch (before_first is_colon whole) (after_first is_colon whole))) other
    ∙ ap (λ t. watch t (after_first is_colon whole)) before
    ∙ ap (watch user) after
    ∙ ap (λ (b : Bool). cond {A = Option (List ℕ × List ℕ)} b (Some (user, mailbox)) None) (is_mailbox_again mailbox named)

-- ---- one setting

ok_is : {A E : Type 0} (x y : A) → ◌≡◌ {A = Result A E} (Ok x) (Ok y) → x ≡ y
ok_is x y e = cc

err_is : {A E : Type 0} (x y : E) → ◌≡◌ {A = Result A E} (Err x) (Err y) → x ≡ y
err_is x y e = cc

or_bad_ok : (f : Flag) (o : Option Setting) (s : Setting) → or_bad f o ≡ Ok s → o ≡ Some s
or_bad_ok f (Some x) s e = ap (λ (y : Setting). Some y) (ok_is x s e)
or_bad_ok f None s e = absurd cc

valued_takes : (f : Flag) (words : List (List ℕ)) (value : List ℕ) (s : Setting) → AreOption words (flag_text f) value → valued f value ≡ Ok s → IsSetting words s
unfolding valued
valued_takes (flag.Address which) words value s are e =
    let p = bind_some (addr_of value) (λ a. Some (setting.Address which a)) s (or_bad_ok (flag.Address which) (addr_of value >>= λ a. Some (setting.Address which a)) s e) in
    let a = addr_takes value p.0 p.1 in
    subst (IsSetting words) (some_is (setting.Address which p.0) s p.2) (a.1, subst (AreOption words (address_flag_text which)) a.0 are)
valued_takes (flag.Number bound) words value s are e =
    let p = bind_some (between (least bound) (most bound) value) (λ n. Some (setting.Number bound n)) s (or_bad_ok (flag.Number bound) (between (least bound) (most bound) value >>= λ n. Some (setting.Number bound n)) s e) in
    let n = between_takes (least bound) (most bound) value p.0 p.1 in
    subst (IsSetting words) (some_is (setting.Number bound p.0) s p.2) (n.1, n.2, subst (AreOption words (bound_text bound)) n.0 are)
valued_takes flag.MailboxFile words value s are e = subst (IsSetting words) (ok_is (setting.MailboxFile value) s e) are
valued_takes flag.StateFile words value s are e = subst (IsSetting words) (ok_is (setting.StateFile value) s e) are
valued_takes flag.JournalFolder words value s are e = subst (IsSetting words) (ok_is (setting.JournalFolder value) s e) are
valued_takes flag.Sync words value s are e =
    let p = bind_some (sync_of value) (λ x. Some (setting.Sync x)) s (or_bad_ok flag.Sync (sync_of value >>= λ x. Some (setting.Sync x)) s e) in
    subst (IsSetting words) (some_is (setting.Sync p.0) s p.2) (sync_takes words value p.0 p.1 are)
valued_takes flag.PasswordFile words value s are e = subst (IsSetting words) (ok_is (setting.PasswordFile value) s e) are
valued_takes flag.Watch words value s are e =
    let p = bind_some (watch_of value) (λ w. Some (setting.Watch w.0 w.1)) s (or_bad_ok flag.Watch (watch_of value >>= λ w. Some (setting.Watch w.0 w.1)) s e) in
    let w = watch_takes value p.0.0 p.0.1 p.1 in
    subst (IsSetting words) (some_is (setting.Watch p.0.0 p.0.1) s p.2) (w.0, w.1, subst (AreOption words (codes "--watch")) w.2 are)
valued_takes flag.Rate words value s are e =
    let p = bind_some (rate_of value) (λ r. Some (setting.Rate r)) s (or_bad_ok flag.Rate (rate_of value >>= λ r. Some (setting.Rate r)) s e) in
    let r = rate_takes value p.0 p.1 in
    subst (IsSetting words) (some_is (setting.Rate p.0) s p.2) (r.0, r.1, subst (AreOption words (codes "--rate")) r.2 are)
valued_takes flag.Guesses words value s are e =
    let p = bind_some (guesses_of value) (λ g. Some (setting.Guesses g)) s (or_bad_ok flag.Guesses (guesses_of value >>= λ g. Some (setting.Guesses g)) s e) in
    let g = guesses_take value p.0 p.1 in
    subst (IsSetting words) (some_is (setting.Guesses p.0) s p.2) (g.0, g.1, subst (AreOption words (codes "--guesses")) g.2 are)
valued_takes flag.Allow words value s are e =
    let p = bind_some (network value) (λ n. Some (setting.Allow n)) s (or_bad_ok flag.Allow (network value >>= λ n. Some (setting.Allow n)) s e) in
    subst (IsSetting words) (some_is (setting.Allow p.0) s p.2) (value, are, p.1)
valued_takes flag.ControlAllow words value s are e =
    let p = bind_some (network value) (λ n. Some (setting.ControlAllow n)) s (or_bad_ok flag.ControlAllow (network value >>= λ n. Some (setting.ControlAllow n)) s e) in
    subst (IsSetting words) (some_is (setting.ControlAllow p.0) s p.2) (value, are, p.1)
valued_takes flag.FeedFrom words value s are e =
    let p = bind_some (network value) (λ n. Some (setting.FeedFrom n)) s (or_bad_ok flag.FeedFrom (network value >>= λ n. Some (setting.FeedFrom n)) s e) in
    subst (IsSetting words) (some_is (setting.FeedFrom p.0) s p.2) (value, are, p.1)
valued_takes flag.Seed words value s are e =
    let p = bind_some (seed_bytes value) (λ x. Some (setting.Seed x)) s (or_bad_ok flag.Seed (seed_bytes value >>= λ x. Some (setting.Seed x)) s e) in
    subst (IsSetting words) (some_is (setting.Seed p.0) s p.2) (value, are, seed_takes value p.0 p.1)

or_bad_err : (f : Flag) (o : Option Setting) (e : OptionsError) → or_bad f o ≡ Err e → error.Bad f ≡ e
or_bad_err f (Some x) e k = absurd cc
or_bad_err f None e k = err_is (error.Bad f) e k

valued_wrong : (f : Flag) (value : List ℕ) (e : OptionsError) → valued f value ≡ Err e → error.Bad f ≡ e
unfolding valued
valued_wrong (flag.Address which) value e k = or_bad_err (flag.Address which) (addr_of value >>= λ a. Some (setting.Address which a)) e k
valued_wrong (flag.Number bound) value e k = or_bad_err (flag.Number bound) (between (least bound) (most bound) value >>= λ n. Some (setting.Number bound n)) e k
valued_wrong flag.MailboxFile value e k = absurd cc
valued_wrong flag.StateFile value e k = absurd cc
valued_wrong flag.JournalFolder value e k = absurd cc
valued_wrong flag.Sync value e k = or_bad_err flag.Sync (sync_of value >>= λ x. Some (setting.Sync x)) e k
valued_wrong flag.PasswordFile value e k = absurd cc
valued_wrong flag.Watch value e k = or_bad_err flag.Watch (watch_of value >>= λ w. Some (setting.Watch w.0 w.1)) e k
valued_wrong flag.Rate value e k = or_bad_err flag.Rate (rate_of value >>= λ r. Some (setting.Rate r)) e k
valued_wrong flag.Guesses value e k = or_bad_err flag.Guesses (guesses_of value >>= λ g. Some (setting.Guesses g)) e k
valued_wrong flag.Allow value e k = or_bad_err flag.Allow (network value >>= λ n. Some (setting.Allow n)) e k
valued_wrong flag.ControlAllow value e k = or_bad_err flag.ControlAllow (network value >>= λ n. Some (setting.ControlAllow n)) e k
valued_wrong flag.FeedFrom value e k = or_bad_err flag.FeedFrom (network value >>= λ n. Some (setting.FeedFrom n)) e k
valued_wrong flag.Seed value e k = or_bad_err flag.Seed (seed_bytes value >>= λ x. Some (setting.Seed x)) e k

abbrev by_name : List ℕ → Result Setting OptionsError
by_name word = cond (is_word word && is_user word) (Ok (setting.Mailbox word)) (Err (error.NoMailbox word))

named_takes : (word : List ℕ) (s : Setting) → named word ≡ Ok s → IsSetting (word ∷ []) s
unfolding named
named_takes word s e = dashed (begins 45 word) refl e where
  by_test : (b : Bool) → (is_word word && is_user word) ≡ b → begins 45 word ≡ false → cond {A = Result Setting OptionsError} b (Ok (setting.Mailbox word)) (Err (error.NoMailbox word)) ≡ Ok s → IsSetting (word ∷ []) s
  by_test true is plain k =
      let both = and_both (is_word word) (is_user word) is in
      subst (IsSetting (word ∷ [])) (ok_is (setting.Mailbox word) s k) (record { word = both.0; user = both.1; no_option = plain }, refl)
  by_test false is plain k = absurd cc

  dashed : (b : Bool) → begins 45 word ≡ b → cond b (Err (error.Unknown word)) (by_name word) ≡ Ok s → IsSetting (word ∷ []) s
  dashed true is k = absurd cc
  dashed false is k = by_test (is_word word && is_user word) refl is k

alone_takes : (word : List ℕ) (s : Setting) → alone word ≡ Ok s → IsSetting (word ∷ []) s
unfolding alone
alone_takes word s e = step (joined_of word) refl e where
  by_switches : (o : Option Switch) → switch_of word ≡ o → by_switch o word ≡ Ok s → IsSetting (word ∷ []) s
  by_switches (Some x) is k = subst (IsSetting (word ∷ [])) (ok_is (setting.Switch x) s k) (ap (λ (w : List ℕ). w ∷ []) (switch_takes word x is))
  by_switches None is k = named_takes word s k

  step : (o : Option (Flag × List ℕ)) → joined_of word ≡ o → by_joined o word ≡ Ok s → IsSetting (word ∷ []) s
  step (Some (f, value)) is k = valued_takes f (word ∷ []) value s (inr (ap (λ (w : List ℕ). w ∷ []) (joined_takes word f value is))) k
  step None is k = by_switches (switch_of word) refl k

no_mailbox : (word : List ℕ) → (is_word word && is_user word) ≡ false → ¬ (IsMailbox word)
no_mailbox word is h = absurd (clash (sym is ∙ ap (λ b. b && is_user word) h.word ∙ h.user)) where
  clash : false ≡ true → ⊥
  clash e = absurd cc

-- ---- a setting is read again

flag_begins : (f : Flag) → begins 45 (flag_text f) ≡ true
flag_begins (flag.Address address.Listen) = refl
flag_begins (flag.Address address.Contact) = refl
flag_begins (flag.Address address.Control) = refl
flag_begins (flag.Address address.Feed) = refl
flag_begins (flag.Number bound.Workers) = refl
flag_begins (flag.Number bound.MinTime) = refl
flag_begins (flag.Number bound.MaxTime) = refl
flag_begins (flag.Number bound.DefaultTime) = refl
flag_begins (flag.Number bound.ReferTime) = refl
flag_begins (flag.Number bound.MaxCseq) = refl
flag_begins (flag.Number bound.Table) = refl
flag_begins (flag.Number bound.Serials) = refl
flag_begins (flag.Number bound.Kept) = refl
flag_begins (flag.Number bound.Inbox) = refl
flag_begins (flag.Number bound.Outbox) = refl
flag_begins (flag.Number bound.Repeats) = refl
flag_begins (flag.Number bound.Open) = refl
flag_begins (flag.Number bound.Linger) = refl
flag_begins (flag.Number bound.Outage) = refl
flag_begins (flag.Number bound.MaxDatagram) = refl
flag_begins (flag.Number bound.ReceiveBuffer) = refl
flag_begins (flag.Number bound.NonceTime) = refl
flag_begins (flag.Number bound.PerSource) = refl
flag_begins (flag.Number bound.JournalBytes) = refl
flag_begins (flag.Number bound.MaxTexts) = refl
flag_begins (flag.Number bound.MaxMailboxes) = refl
flag_begins flag.MailboxFile = refl
flag_begins flag.StateFile = refl
flag_begins flag.JournalFolder = refl
flag_begins flag.Sync = refl
flag_begins flag.PasswordFile = refl
flag_begins flag.Watch = refl
flag_begins flag.Rate = refl
flag_begins flag.Guesses = refl
flag_begins flag.Allow = refl
flag_begins flag.ControlAllow = refl
flag_begins flag.FeedFrom = refl
flag_begins flag.Seed = refl

joined_begins : (f : Flag) (value : List ℕ) → begins 45 (joined (flag_text f) value) ≡ true
joined_begins f value = step (flag_text f) (flag_begins f) where
  step : (text : List ℕ) → begins 45 text ≡ true → begins 45 (joined text value) ≡ true
  step [] h = absurd cc
  step (x ∷ xs) h = h

switch_begins : (s : Switch) → begins 45 (switch_text s) ≡ true
switch_begins switch.KeepSubscriptions = refl
switch_begins switch.NoRefer = refl
switch_begins switch.UntilInputEnds = refl
switch_begins switch.OldDigest = refl
switch_begins switch.LogRequests = refl
switch_begins switch.LogJson = refl
switch_begins switch.AnyMailbox = refl

plain_is_no_flag : (word : List ℕ) → begins 45 word ≡ false → flag_named word ≡ None
plain_is_no_flag word plain = step (flag_named word) refl where
  clash : false ≡ true → ⊥
  clash e = absurd cc

  step : (o : Option Flag) → flag_named word ≡ o → o ≡ None
  step None is = refl
  step (Some f) is = absurd (clash (sym plain ∙ ap (begins 45) (flag_takes word f is) ∙ flag_begins f))

plain_is_not_joined : (word : List ℕ) → begins 45 word ≡ false → joined_of word ≡ None
plain_is_not_joined word plain = step (joined_of word) refl where
  clash : false ≡ true → ⊥
  clash e = absurd cc

  step : (o : Option (Flag × List ℕ)) → joined_of word ≡ o → o ≡ None
  step None is = refl
  step (Some (f, value)) is = absurd (clash (sym plain ∙ ap (begins 45) (joined_takes word f value is) ∙ joined_begins f value))

plain_is_no_switch : (word : List ℕ) → begins 45 word ≡ false → switch_of word ≡ None
plain_is_no_switch word plain = step (switch_of word) refl where
  clash : false ≡ true → ⊥
  clash e = absurd cc

  step : (o : Option Switch) → switch_of word ≡ o → o ≡ None
  step None is = refl
  step (Some s) is = absurd (clash (sym plain ∙ ap (begins 45) (switch_takes word s is) ∙ switch_begins s))

mailbox_again : (name : List ℕ) → IsMailbox name → alone name ≡ Ok (setting.Mailbox name)
unfolding alone named
mailbox_again name h = rw (plain_is_not_joined name h.no_option, plain_is_no_switch name h.no_option, h.no_option, h.word, h.user) refl

address_again : (p : AddressFlag) (a : Addr) → IsAddr a → valued (flag.Address p) (addr_text a) ≡ Ok (setting.Address p a)
unfolding valued
address_again p a h = rw (addr_again a h) refl

number_again : (b : Bound) (n : ℕ) → least b ≤ n → n ≤ most b → valued (flag.Number b) (decimal n) ≡ Ok (setting.Number b n)
unfolding valued
number_again b n high le = rw (between_again (least b) (most b) n high le (most_is_small b)) refl

file_again : (path : List ℕ) → valued flag.MailboxFile path ≡ Ok (setting.MailboxFile path)
unfolding valued
file_again path = refl

state_again : (path : List ℕ) → valued flag.StateFile path ≡ Ok (setting.StateFile path)
unfolding valued
state_again path = refl

journal_again : (path : List ℕ) → valued flag.JournalFolder path ≡ Ok (setting.JournalFolder path)
unfolding valued
journal_again path = refl

never_again : valued flag.Sync (codes "never") ≡ Ok (setting.Sync syncing.Never)
unfolding valued sync_of
never_again = refl

always_again : valued flag.Sync (codes "always") ≡ Ok (setting.Sync syncing.Always)
unfolding valued sync_of
always_again = refl

syncs_again : (n : ℕ) → 1 ≤ n → n ≤ 3600 → valued flag.Sync (decimal n) ≡ Ok (setting.Sync (syncing.Each n))
unfolding valued
syncs_again n high le = rw (sync_again n high le) refl

passwords_again : (path : List ℕ) → valued flag.PasswordFile path ≡ Ok (setting.PasswordFile path)
unfolding valued
passwords_again path = refl

watches_again : (user mailbox : List ℕ) → has_no_colon user ≡ true → IsMailbox mailbox → valued flag.Watch (watched_text user mailbox) ≡ Ok (setting.Watch user mailbox)
unfolding valued
watches_again user mailbox plain named = rw (watch_again user mailbox plain named) refl

rates_again : (r : Rate) → IsRateNumber r.per_second → IsRateNumber r.burst → valued flag.Rate (rate_text r) ≡ Ok (setting.Rate r)
unfolding valued
rates_again r n b = rw (rate_again r n b) refl

all_guesses_again : (g : Guesses) → IsRateNumber g.burst → IsRateNumber g.per_minute → valued flag.Guesses (guesses_text g) ≡ Ok (setting.Guesses g)
unfolding valued
all_guesses_again g b n = rw (guesses_again g b n) refl

networks_again : (text : List ℕ) (n : Network) → network text ≡ Some n → valued flag.Allow text ≡ Ok (setting.Allow n)
unfolding valued
networks_again text n e = rw e refl

control_networks_again : (text : List ℕ) (n : Network) → network text ≡ Some n → valued flag.ControlAllow text ≡ Ok (setting.ControlAllow n)
unfolding valued
control_networks_again text n e = rw e refl

feed_networks_again : (text : List ℕ) (n : Network) → network text ≡ Some n → valued flag.FeedFrom text ≡ Ok (setting.FeedFrom n)
unfolding valued
feed_networks_again text n e = rw e refl

seeds_again : (digits seed : List ℕ) → decode_sized digits 32 ≡ Ok seed → valued flag.Seed digits ≡ Ok (setting.Seed seed)
unfolding valued
seeds_again digits seed e = rw (seed_again digits seed e) refl

switches_again : (s : Switch) → alone (switch_text s) ≡ Ok (setting.Switch s)
unfolding alone
switches_again s = ap (λ o. by_joined o (switch_text s)) (switch_is_no_flag s).1 ∙ ap (λ o. by_switch o (switch_text s)) (switch_again s)

pair_again : (f : Flag) (value : List ℕ) → alone (joined (flag_text f) value) ≡ valued f value
unfolding alone
pair_again f value = ap (λ o. by_joined o (joined (flag_text f) value)) (joined_again f value)

-- an option with its value
option_again : (f : Flag) (value : List ℕ) (rest : List (List ℕ)) → settings_from None (flag_text f ∷ value ∷ rest) ≡ then_more (valued f value) (settings_from None rest)
unfolding settings_from
option_again f value rest = ap (λ o. by_flag o (alone (flag_text f)) (λ waiting. settings_from waiting (value ∷ rest))) (flag_again f)

-- a word that stands alone
alone_again : (word : List ℕ) (rest : List (List ℕ)) → flag_named word ≡ None → settings_from None (word ∷ rest) ≡ then_more (alone word) (settings_from None rest)
unfolding settings_from
alone_again word rest none = ap (λ o. by_flag o (alone word) (λ waiting. settings_from waiting rest)) none

options_again : (f : Flag) (value : List ℕ) (front rest : List (List ℕ)) → AreOption front (flag_text f) value → settings_from None (front ++ rest) ≡ then_more (valued f value) (settings_from None rest)
options_again f value front rest (inl two) = ap (λ (l : List (List ℕ)). settings_from None (l ++ rest)) two ∙ option_again f value rest
options_again f value front rest (inr one) =
    ap (λ (l : List (List ℕ)). settings_from None (l ++ rest)) one ∙ alone_again (joined (flag_text f) value) rest (joined_is_no_flag f value)
    ∙ ap (λ r. then_more r (settings_from None rest)) (pair_again f value)

setting_again : (s : Setting) (front rest : List (List ℕ)) → IsSetting front s → settings_from None (front ++ rest) ≡ then_more (Ok s) (settings_from None rest)
setting_again (setting.Address p a) front rest h = options_again (flag.Address p) (addr_text a) front rest h.1 ∙ ap (λ r. then_more r (settings_from None rest)) (address_again p a h.0)
setting_again (setting.Number b n) front rest h = options_again (flag.Number b) (decimal n) front rest h.2 ∙ ap (λ r. then_more r (settings_from None rest)) (number_again b n h.0 h.1)
setting_again (setting.MailboxFile path) front rest h = options_again flag.MailboxFile path front rest h ∙ ap (λ r. then_more r (settings_from None rest)) (file_again path)
setting_again (setting.StateFile path) front rest h = options_again flag.StateFile path front rest h ∙ ap (λ r. then_more r (settings_from None rest)) (state_again path)
setting_again (setting.JournalFolder path) front rest h = options_again flag.JournalFolder path front rest h ∙ ap (λ r. then_more r (settings_from None rest)) (journal_again path)
setting_again (setting.Sync syncing.Never) front rest h = options_again flag.Sync (codes "never") front rest h ∙ ap (λ r. then_more r (settings_from None rest)) never_again
setting_again (setting.Sync syncing.Always) front rest h = options_again flag.Sync (codes "always") front rest h ∙ ap (λ r. then_more r (settings_from None rest)) always_again
setting_again (setting.Sync (syncing.Each n)) front rest h = options_again flag.Sync (decimal n) front rest h.2 ∙ ap (λ r. then_more r (settings_from None rest)) (syncs_again n h.0 h.1)
setting_again (setting.PasswordFile path) front rest h = options_again flag.PasswordFile path front rest h ∙ ap (λ r. then_more r (settings_from None rest)) (passwords_again path)
setting_again (setting.Watch user mailbox) front rest h =
    options_again flag.Watch (watched_text user mailbox) front rest h.2 ∙ ap (λ r. then_more r (settings_from None rest)) (watches_again user mailbox h.0 h.1)
setting_again (setting.Rate rate) front rest h = options_again flag.Rate (rate_text rate) front rest h.2 ∙ ap (λ r. then_more r (settings_from None rest)) (rates_again rate h.0 h.1)
setting_again (setting.Guesses g) front rest h = options_again flag.Guesses (guesses_text g) front rest h.2 ∙ ap (λ r. then_more r (settings_from None rest)) (all_guesses_again g h.0 h.1)
setting_again (setting.Allow n) front rest h = options_again flag.Allow h.0 front rest h.1 ∙ ap (λ r. then_more r (settings_from None rest)) (networks_again h.0 n h.2)
setting_again (setting.ControlAllow n) front rest h = options_again flag.ControlAllow h.0 front rest h.1 ∙ ap (λ r. then_more r (settings_from None rest)) (control_networks_again h.0 n h.2)
setting_again (setting.FeedFrom n) front rest h = options_again flag.FeedFrom h.0 front rest h.1 ∙ ap (λ r. then_more r (settings_from None rest)) (feed_networks_again h.0 n h.2)
setting_again (setting.Seed seed) front rest h = options_again flag.Seed h.0 front rest h.1 ∙ ap (λ r. then_more r (settings_from None rest)) (seeds_again h.0 seed h.2)
setting_again (setting.Switch x) front rest h =
    ap (λ (l : List (List ℕ)). settings_from None (l ++ rest)) h ∙ alone_again (switch_text x) rest (switch_is_no_flag x).0 ∙ ap (λ r. then_more r (settings_from None rest)) (switches_again x)
setting_again (setting.Mailbox name) front rest h =
    ap (λ (l : List (List ℕ)). settings_from None (l ++ rest)) h.1 ∙ alone_again name rest (plain_is_no_flag name h.0.no_option) ∙ ap (λ r. then_more r (settings_from None rest)) (mailbox_again name h.0)

no_words : settings_from None [] ≡ Ok []
unfolding settings_from
no_words = refl

pub settings_again : (words : List (List ℕ)) (settings : List Setting) → AreSettings words settings → settings_from None words ≡ Ok settings
settings_again words [] h = ap (settings_from None) h ∙ no_words
settings_again words (s ∷ settings) h =
    ap (settings_from None) h.2 ∙ setting_again s h.0 h.1 h.3 ∙ ap (then_more (Ok s)) (settings_again h.1 settings h.4)

-- ---- what is found is so

abbrev with_waiting : Option Flag → List (List ℕ) → List (List ℕ)
with_waiting None words = words
with_waiting (Some f) words = flag_text f ∷ words

record IsMore (s : Result Setting OptionsError) (more : Result (List Setting) OptionsError) (settings : List Setting) : Type 0 where
  one : Setting
  others : List Setting
  one_is : s ≡ Ok one
  others_are : more ≡ Ok others
  all : one ∷ others ≡ settings

more_ok : (s : Result Setting OptionsError) (more : Result (List Setting) OptionsError) (settings : List Setting) → then_more s more ≡ Ok settings → IsMore s more settings
more_ok (Ok s) (Ok others) settings e = record { one = s; others = others; one_is = refl; others_are = refl; all = ok_is (s ∷ others) settings e }
more_ok (Ok s) (Err k) settings e = absurd cc
more_ok (Err k) more settings e = absurd cc

takes_from : (o : Option Flag) (words : List (List ℕ)) (settings : List Setting) → settings_from o words ≡ Ok settings → AreSettings (with_waiting o words) settings
unfolding settings_from
takes_from None [] settings e = subst (AreSettings []) (ok_is [] settings e) refl
takes_from (Some f) [] settings e = absurd cc
takes_from (Some f) (w ∷ ws) settings e =
    let m = more_ok (valued f w) (settings_from None ws) settings e in
    subst (AreSettings (flag_text f ∷ w ∷ ws)) m.all (flag_text f ∷ w ∷ [], ws, refl, valued_takes f (flag_text f ∷ w ∷ []) w m.one (inl refl) m.one_is, takes_from None ws m.others m.others_are)
takes_from None (w ∷ ws) settings e = step (flag_named w) refl (λ o more k. takes_from o ws more k) e where
  step : (o : Option Flag) → flag_named w ≡ o → ((p : Option Flag) (more : List Setting) → settings_from p ws ≡ Ok more → AreSettings (with_waiting p ws) more)
      → by_flag o (alone w) (λ waiting. settings_from waiting ws) ≡ Ok settings → AreSettings (w ∷ ws) settings
  step (Some f) is again k = subst (λ (x : List ℕ). AreSettings (x ∷ ws) settings) (sym (flag_takes w f is)) (again (Some f) settings k)
  step None is again k =
      let m = more_ok (alone w) (settings_from None ws) settings k in
      subst (AreSettings (w ∷ ws)) m.all (w ∷ [], ws, refl, alone_takes w m.one m.one_is, again None m.others m.others_are)

pub settings_take : (words : List (List ℕ)) (settings : List Setting) → settings_from None words ≡ Ok settings → AreSettings words settings
settings_take words settings e = takes_from None words settings e

-- ---- what is wrong

at_once : (words : List (List ℕ)) (e : OptionsError) → BeginsWrong words e → AreWrong words e
at_once words e h = record { front = []; settings = []; are_settings = refl; rest = words; whole = refl; wrong = h }

behind : (s : Setting) (front words : List (List ℕ)) (e : OptionsError) → IsSetting front s → AreWrong words e → AreWrong (front ++ words) e
behind s front words e is h = record {
  front = front ++ h.front;
  settings = s ∷ h.settings;
  are_settings = (front, h.front, refl, is, h.are_settings);
  rest = h.rest;
  whole = ap (λ (l : List (List ℕ)). front ++ l) h.whole ∙ sym (append_assoc front h.front h.rest);
  wrong = h.wrong;
}

no_setting : (f : Flag) (value : List ℕ) (front : List (List ℕ)) (e : OptionsError) → AreOption front (flag_text f) value → valued f value ≡ Err e → (s : Setting) → ¬ (IsSetting front s)
no_setting f value front e are k s h =
    clash (then_more (Ok s) (Ok [])) refl (sym (ap (then_more (Ok s)) no_words) ∙ sym (setting_again s front [] h) ∙ options_again f value front [] are ∙ ap (λ r. then_more r (settings_from None [])) k) where
      clash : (r : Result (List Setting) OptionsError) → r ≡ Ok (s ∷ []) → r ≡ Err e → ⊥
      clash r a b = absurd cc

begins_bad : (f : Flag) (value : List ℕ) (front rest : List (List ℕ)) (e : OptionsError) → AreOption front (flag_text f) value → valued f value ≡ Err e → BeginsWrong (front ++ rest) e
begins_bad f value front rest e are k = subst (BeginsWrong (front ++ rest)) (valued_wrong f value e k) (front, rest, value, refl, are, no_setting f value front e are k)

is_bad : (f : Flag) (w : List ℕ) (ws : List (List ℕ)) (e : OptionsError) → valued f w ≡ Err e → AreWrong (flag_text f ∷ w ∷ ws) e
is_bad f w ws e k = at_once (flag_text f ∷ w ∷ ws) e (begins_bad f w (flag_text f ∷ w ∷ []) ws e (inl refl) k)

named_wrong : (word : List ℕ) (words : List (List ℕ)) (e : OptionsError) → flag_named word ≡ None → joined_of word ≡ None → switch_of word ≡ None → named word ≡ Err e → BeginsWrong (word ∷ words) e
unfolding named
named_wrong word words e none apart other k = dashed (begins 45 word) refl k where
  by_test : (b : Bool) → (is_word word && is_user word) ≡ b → begins 45 word ≡ false → cond {A = Result Setting OptionsError} b (Ok (setting.Mailbox word)) (Err (error.NoMailbox word)) ≡ Err e → BeginsWrong (word ∷ words) e
  by_test true is plain k = absurd cc
  by_test false is plain k = subst (BeginsWrong (word ∷ words)) (err_is (error.NoMailbox word) e k) (words, refl, no_mailbox word is, plain)

  dashed : (b : Bool) → begins 45 word ≡ b → cond b (Err (error.Unknown word)) (by_name word) ≡ Err e → BeginsWrong (word ∷ words) e
  dashed true is k = subst (BeginsWrong (word ∷ words)) (err_is (error.Unknown word) e k) (words, refl, is, no_switch word other, no_flag word none, no_joined word apart)
  dashed false is k = by_test (is_word word && is_user word) refl is k

alone_wrong : (word : List ℕ) (words : List (List ℕ)) (e : OptionsError) → flag_named word ≡ None → alone word ≡ Err e → BeginsWrong (word ∷ words) e
unfolding alone
alone_wrong word words e none k = step (joined_of word) refl k where
  by_switches : (o : Option Switch) → switch_of word ≡ o → joined_of word ≡ None → by_switch o word ≡ Err e → BeginsWrong (word ∷ words) e
  by_switches (Some x) is apart k = absurd cc
  by_switches None is apart k = named_wrong word words e none apart is k

  step : (o : Option (Flag × List ℕ)) → joined_of word ≡ o → by_joined o word ≡ Err e → BeginsWrong (word ∷ words) e
  step (Some (f, value)) is k = begins_bad f value (word ∷ []) words e (inr (ap (λ (w : List ℕ). w ∷ []) (joined_takes word f value is))) k
  step None is k = by_switches (switch_of word) refl is k

wrong_from : (o : Option Flag) (words : List (List ℕ)) (e : OptionsError) → settings_from o words ≡ Err e → AreWrong (with_waiting o words) e
unfolding settings_from
wrong_from None [] e k = absurd cc
wrong_from (Some f) [] e k = subst (AreWrong (flag_text f ∷ [])) (err_is (error.Missing f) e k) (at_once (flag_text f ∷ []) (error.Missing f) refl)
wrong_from (Some f) (w ∷ ws) e k = step (valued f w) refl (λ j. wrong_from None ws e j) (settings_from None ws) refl k where
  step : (r : Result Setting OptionsError) → valued f w ≡ r → (settings_from None ws ≡ Err e → AreWrong ws e) → (more : Result (List Setting) OptionsError) → settings_from None ws ≡ more
      → then_more r more ≡ Err e → AreWrong (flag_text f ∷ w ∷ ws) e
  step (Err x) is again more m j = is_bad f w ws e (is ∙ ap (λ (y : OptionsError). Err y) (err_is x e j))
  step (Ok s) is again (Ok others) m j = absurd cc
  step (Ok s) is again (Err x) m j = behind s (flag_text f ∷ w ∷ []) ws e (valued_takes f (flag_text f ∷ w ∷ []) w s (inl refl) is) (again (m ∙ ap (λ (y : OptionsError). Err y) (err_is x e j)))
wrong_from None (w ∷ ws) e k = first (flag_named w) refl (λ o j. wrong_from o ws e j) k where
  second : (r : Result Setting OptionsError) → flag_named w ≡ None → alone w ≡ r → (settings_from None ws ≡ Err e → AreWrong ws e) → (more : Result (List Setting) OptionsError) → settings_from None ws ≡ more
      → then_more r more ≡ Err e → AreWrong (w ∷ ws) e
  second (Err x) none is again more m j = at_once (w ∷ ws) e (alone_wrong w ws e none (is ∙ ap (λ (y : OptionsError). Err y) (err_is x e j)))
  second (Ok s) none is again (Ok others) m j = absurd cc
  second (Ok s) none is again (Err x) m j = behind s (w ∷ []) ws e (alone_takes w s is) (again (m ∙ ap (λ (y : OptionsError). Err y) (err_is x e j)))

  first : (o : Option Flag) → flag_named w ≡ o → ((p : Option Flag) → settings_from p ws ≡ Err e → AreWrong (with_waiting p ws) e) → by_flag o (alone w) (λ waiting. settings_from waiting ws) ≡ Err e → AreWrong (w ∷ ws) e
  first (Some f) is again j = subst (λ (x : List ℕ). AreWrong (x ∷ ws) e) (sym (flag_takes w f is)) (again (Some f) j)
  first None is again j = second (alone w) is refl (again None) (settings_from None ws) refl j

-- ---- from what the function on lists gives to what is answered

pub found_is : {X : Type 0} (view : X → List Setting) (r : Result X OptionsError) (words : List (List ℕ)) → Reads view r (settings_from None words) → IfOk r (λ x. AreSettings words (view x))
found_is view (Ok x) words h = settings_take words (view x) h
found_is view (Err e) words h = tt

pub only_is : {X : Type 0} (view : X → List Setting) (r : Result X OptionsError) (words : List (List ℕ)) (settings : List Setting) → Reads view r (settings_from None words) → AreSettings words settings → Answers view r settings
only_is view (Ok x) words settings h are = ok_is (view x) settings (sym h ∙ settings_again words settings are)
only_is view (Err error.NoMemory) words settings h are = tt
only_is view (Err (error.Missing f)) words settings h are = other (settings_from None words) h (settings_again words settings are) where
  other : (r : Result (List Setting) OptionsError) → r ≡ Err (error.Missing f) → r ≡ Ok settings → ⊥
  other r a b = absurd cc
only_is view (Err (error.Bad f)) words settings h are = other (settings_from None words) h (settings_again words settings are) where
  other : (r : Result (List Setting) OptionsError) → r ≡ Err (error.Bad f) → r ≡ Ok settings → ⊥
  other r a b = absurd cc
only_is view (Err (error.Unknown w)) words settings h are = other (settings_from None words) h (settings_again words settings are) where
  other : (r : Result (List Setting) OptionsError) → r ≡ Err (error.Unknown w) → r ≡ Ok settings → ⊥
  other r a b = absurd cc
only_is view (Err (error.NoMailbox w)) words settings h are = other (settings_from None words) h (settings_again words settings are) where
  other : (r : Result (List Setting) OptionsError) → r ≡ Err (error.NoMailbox w) → r ≡ Ok settings → ⊥
  other r a b = absurd cc
only_is view (Err (error.NoRange w)) words settings h are = other (settings_from None words) h (settings_again words settings are) where
  other : (r : Result (List Setting) OptionsError) → r ≡ Err (error.NoRange w) → r ≡ Ok settings → ⊥
  other r a b = absurd cc

pub wrong_is : {X : Type 0} (view : X → List Setting) (r : Result X OptionsError) (words : List (List ℕ)) → Reads view r (settings_from None words) → IfErr r (AreWrong words)
wrong_is view (Ok x) words h = tt
wrong_is view (Err error.NoMemory) words h = at_once words error.NoMemory tt
wrong_is view (Err (error.Missing f)) words h = wrong_from None words (error.Missing f) h
wrong_is view (Err (error.Bad f)) words h = wrong_from None words (error.Bad f) h
wrong_is view (Err (error.Unknown w)) words h = wrong_from None words (error.Unknown w) h
wrong_is view (Err (error.NoMailbox w)) words h = wrong_from None words (error.NoMailbox w) h
wrong_is view (Err (error.NoRange w)) words h = wrong_from None words (error.NoRange w) h
