-- What one block more adds to what has been heard.
use Rattle.std.proofs.Common.{◌≡◌, ℕ, ◌+◌, ◌-◌, ◌<◌, ◌≤◌, ◌^◌, List, [], ◌∷◌, ◌++◌, length, Option, Some, None, refl, sym, ap, ◌∙◌, arith, length-append}
use Rattle.std.proofs.lemmas.List.{append-nil}
use Rattle.std.specs.Prelude.{option_to_list}
use Rattle.std.specs.List.{flat_map, filter_map, enumerate_from, cons_option}
use Rattle.std.proofs.lemmas.List.Concat.{flat_map-append}
use Rattle.std.proofs.lemmas.List.Elements.{filter_map-append}
use Rattle.sip_text.specs.declared.address.Addr.{Addr}
use Rattle.scripts.specs.declared.script.Block.{Block}
use Rattle.scripts.specs.declared.script.Block.TheVariants as block
use Rattle.notifier_model.specs.declared.event.Event.{Event}
use Rattle.server.specs.declared.hearing.HeardScript.{HeardScript}
use Rattle.server.specs.Page.{Readings, AreReadings, event_of, unread_line, octets_in, event_in, events_of, unread_lines}
use Rattle.server.specs.Hearing.{HasHeard}
use Rattle.crew.proofs.Counted.{enumerate_from-append}

one_more : {X : Type 0} (o : Option X) → cons_option o [] ≡ option_to_list o
one_more None = refl
one_more (Some x) = refl

filter_map-push : {X Y : Type 0} (h : X → Option Y) (xs : List X) (x : X) → filter_map h (xs ++ x ∷ []) ≡ filter_map h xs ++ option_to_list (h x)
filter_map-push h xs x = filter_map-append h xs (x ∷ []) ∙ ap (λ ys. filter_map h xs ++ ys) (one_more (h x))

-- the line of one datagram, by its number and its octets
abbrev line_of : Readings → ℕ × List ℕ → List ℕ
line_of readings numbered = unread_line numbered.0 (readings numbered.1)

lines_of-push : (readings : Readings) (datagrams : List (List ℕ)) (octets : List ℕ) →
    flat_map (line_of readings) (enumerate_from 1 (datagrams ++ octets ∷ []))
    ≡ flat_map (line_of readings) (enumerate_from 1 datagrams) ++ unread_line (length datagrams + 1) (readings octets)
lines_of-push readings datagrams octets =
    ap (flat_map (line_of readings)) (enumerate_from-append 1 datagrams (octets ∷ []))
    ∙ flat_map-append (line_of readings) (enumerate_from 1 datagrams) ((1 + length datagrams, octets) ∷ [])
    ∙ ap (λ xs. flat_map (line_of readings) (enumerate_from 1 datagrams) ++ xs)
    (append-nil (unread_line (1 + length datagrams) (readings octets))
    ∙ ap (λ n. unread_line n (readings octets)) (omega arith))

module _ (blocks : List Block) (before after : HeardScript) where
  -- a block that is no datagram: an event, or nothing
  pub heard-event : (b : Block) (e : Option Event) → ((readings : Readings) → event_in readings b ≡ e) → octets_in b ≡ None
      → after.events.items ≡ before.events.items ++ option_to_list e → after.unread ≡ before.unread → after.datagrams ≡ before.datagrams
      → HasHeard blocks before → HasHeard (blocks ++ b ∷ []) after
  heard-event b e is_event no_datagram events unread datagrams heard =
      let none : filter_map octets_in (blocks ++ b ∷ []) ≡ filter_map octets_in blocks =
      filter_map-push octets_in blocks b ∙ ap (λ o. filter_map octets_in blocks ++ option_to_list o) no_datagram ∙ append-nil (filter_map octets_in blocks) in
      record {
        events = λ readings are.
            events ∙ ap (λ xs. xs ++ option_to_list e) (heard.events readings are)
            ∙ ap (λ o. events_of readings blocks ++ option_to_list o) (sym (is_event readings))
            ∙ sym (filter_map-push (event_in readings) blocks b);
        unread = λ readings are.
            unread ∙ heard.unread readings are ∙ ap (λ ds. flat_map (line_of readings) (enumerate_from 1 ds)) (sym none);
        datagrams = datagrams ∙ heard.datagrams ∙ ap length (sym none);
      }

  -- a datagram
  pub heard-datagram : (source : Addr) (octets : List ℕ)
      → ((readings : Readings) → AreReadings readings → after.events.items ≡ before.events.items ++ option_to_list (event_of source (readings octets)))
      → ((readings : Readings) → AreReadings readings → after.unread ≡ before.unread ++ unread_line after.datagrams (readings octets))
      → after.datagrams ≡ before.datagrams + 1
      → HasHeard blocks before → HasHeard (blocks ++ block.Sip source octets ∷ []) after
  heard-datagram source octets events unread datagrams heard =
      let one : filter_map octets_in (blocks ++ block.Sip source octets ∷ []) ≡ filter_map octets_in blocks ++ octets ∷ [] =
      filter_map-push octets_in blocks (block.Sip source octets) in
      let number : after.datagrams ≡ length (filter_map octets_in blocks) + 1 = datagrams ∙ ap (λ n. n + 1) heard.datagrams in
      record {
        events = λ readings are.
            events readings are
            ∙ ap (λ xs. xs ++ option_to_list (event_of source (readings octets))) (heard.events readings are)
            ∙ sym (filter_map-push (event_in readings) blocks (block.Sip source octets));
        unread = λ readings are.
            unread readings are
            ∙ ap (λ xs. xs ++ unread_line after.datagrams (readings octets)) (heard.unread readings are)
            ∙ ap (λ n. unread_lines readings blocks ++ unread_line n (readings octets)) number
            ∙ sym (lines_of-push readings (filter_map octets_in blocks) octets)
            ∙ ap (λ ds. flat_map (line_of readings) (enumerate_from 1 ds)) (sym one);
        datagrams = number ∙ sym (length-append (filter_map octets_in blocks) (octets ∷ [])) ∙ ap length (sym one);
      }

cons_option-short : {Y : Type 0} (o : Option Y) (ys : List Y) (n : ℕ) → length ys ≤ n → length (cons_option o ys) ≤ n + 1
cons_option-short None ys n short = omega (arith, short)
cons_option-short (Some y) ys n short = omega (arith, short)

filter_map-short : {X Y : Type 0} (h : X → Option Y) (xs : List X) → length (filter_map h xs) ≤ length xs
filter_map-short h [] = omega arith
filter_map-short h (x ∷ xs) =
    let short = cons_option-short (h x) (filter_map h xs) (length xs) (filter_map-short h xs) in
    omega (arith, short)

-- there are no more datagrams than blocks
pub datagrams-few : (heard rest all : List Block) (hearing : HeardScript) → heard ++ rest ≡ all → length all < 2 ^ 63
    → HasHeard heard hearing → hearing.datagrams < 2 ^ 64 - 1
datagrams-few heard rest all hearing whole few has =
    let short = filter_map-short octets_in heard in
    let sum = sym (length-append heard rest) ∙ ap length whole in
    let number = has.datagrams in
    omega (arith, short, sum, number, few)
