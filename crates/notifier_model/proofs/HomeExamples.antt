-- Homes of some events, worked out by computing.
use Rattle.std.specs.Fmt
use Rattle.std.specs.Prelude.{refl, ◌≡◌, codes}
use Rattle.notifier_model.specs.declared.event.Event.{Event}
use Rattle.notifier_model.specs.declared.event.Event.TheVariants.{Progress as Progresses}
use Rattle.notifier_model.specs.Requests.{user_part}
use Rattle.notifier_model.specs.Home.{home, worker_named, key_hash}
use Rattle.notifier_model.proofs.Examples.{Bytes, subscribe_1, refer_1, to_uri, within, comes, reply_from, voice, mail_for}
use Rattle.package.specs.declared.counts.Class.TheVariants.{Voice}

abbrev progress_of : Bytes → Event
progress_of tag = Progresses (record { tag = tag; code = 180; reason = codes "Ringing" })

-- ---- hashes of keys

hash_alice : key_hash (codes "alice") ≡ 92903040
hash_alice = refl

hash_bob : key_hash (codes "bob") ≡ 97717
hash_bob = refl

hash_c7 : key_hash (codes "c7") ≡ 3124
hash_c7 = refl

-- ---- homes

-- by the user part of the Request-URI
subscribe_alice : home (comes subscribe_1) 2 ≡ 0
unfolding home worker_named user_part Fmt.digits
subscribe_alice = refl

subscribe_bob : home (comes (to_uri (codes "sip:bob@127.0.0.1") subscribe_1)) 2 ≡ 1
unfolding home worker_named user_part Fmt.digits
subscribe_bob = refl

-- the scheme isn't looked at
subscribe_sips : home (comes (to_uri (codes "sips:bob@127.0.0.1") subscribe_1)) 2 ≡ 1
unfolding home worker_named user_part Fmt.digits
subscribe_sips = refl

-- a mailbox and its subscribers share a home
mail_alice : home (voice 1) 2 ≡ 0
unfolding home worker_named Fmt.digits
mail_alice = refl

mail_bob : home (mail_for (codes "bob") Voice 1 0 0 0) 2 ≡ 1
unfolding home worker_named Fmt.digits
mail_bob = refl

-- by the Call-ID, c7
refer_by_call : home (comes refer_1) 3 ≡ 1
unfolding home worker_named user_part Fmt.digits
refer_by_call = refl

-- by the To tag
tag_decides : home (comes (within (codes "w1-5-x") 2 subscribe_1)) 2 ≡ 1
unfolding home worker_named user_part Fmt.digits
tag_decides = refl

-- a From tag of a response, a tag of a progress
reply_decides : home (reply_from (codes "w1-5-x") (codes "c1") 200 1) 2 ≡ 1
unfolding home worker_named Fmt.digits
reply_decides = refl

progress_decides : home (progress_of (codes "w1-5-x")) 2 ≡ 1
unfolding home worker_named Fmt.digits
progress_decides = refl

-- no worker of that number, a leading zero, no number, no dash: by the Call-ID, c1
too_great_names_none : home (comes (within (codes "w2-5-x") 2 subscribe_1)) 2 ≡ 0
unfolding home worker_named user_part Fmt.digits
too_great_names_none = refl

leading_zero_names_none : home (comes (within (codes "w01-5-x") 2 subscribe_1)) 2 ≡ 0
unfolding home worker_named user_part Fmt.digits
leading_zero_names_none = refl

bare_names_none : home (comes (within (codes "w-5-x") 2 subscribe_1)) 2 ≡ 0
unfolding home worker_named user_part Fmt.digits
bare_names_none = refl

no_dash_names_none : home (comes (within (codes "w1") 2 subscribe_1)) 2 ≡ 0
unfolding home worker_named user_part Fmt.digits
no_dash_names_none = refl
