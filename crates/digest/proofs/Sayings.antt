-- What parameters say, and which faults are theirs.
use Rattle.std.proofs.Common.{◌≡◌, ℕ, Bool, true, false, cond, List, Option, Some, None, inl, inr, sym, subst, ◌∙◌}
use Rattle.std.specs.Prelude.{Result, Ok, Err, nat_lt, count_by, find, not, codes}
use Rattle.std.specs.Str.{str_eq_ignore_ascii_case}
use Rattle.sip_text.specs.Reading.{elements_of}
use Rattle.sip_text.proofs.Pieces.{some_is}
use Rattle.digest.specs.declared.credentials.Credentials.{Credentials}
use Rattle.digest.specs.declared.credentials.Protection.TheVariants as protection
use Rattle.digest.specs.declared.directive.Directive.{Directive}
use Rattle.digest.specs.declared.directive.Directive.TheVariants as directive
use Rattle.digest.specs.declared.error.CredentialsError.{CredentialsError}
use Rattle.digest.specs.declared.error.CredentialsError.TheVariants as error
use Rattle.digest.specs.Params.{AuthParam, is_named, value_text}
use Rattle.digest.specs.Reading.{auth_param_at, after_scheme}
use Rattle.digest.specs.Grammar.{IsDigest, HasParams}
use Rattle.digest.specs.Credentials.{◌>>=◌, or_bad, said, optional, required, needed, is_count, protection_said, credentials_said, Reads, Says}
use Rattle.digest.proofs.AuthParams.{params_take, params_again, scheme_takes, scheme_again}

-- it is no fault of the scheme or of the list
abbrev IsOfParams : {A : Type 0} → Result A CredentialsError → Type 0
IsOfParams (Ok x) = Unit {0}
IsOfParams (Err error.NoMemory) = Unit {0}
IsOfParams (Err error.OtherScheme) = ⊥
IsOfParams (Err error.Malformed) = ⊥
IsOfParams (Err (error.Twice d)) = Unit {0}
IsOfParams (Err (error.Missing d)) = Unit {0}
IsOfParams (Err (error.Bad d)) = Unit {0}

of_bind : {A B : Type 0} (r : Result A CredentialsError) (f : A → Result B CredentialsError) → IsOfParams r → ((x : A) → IsOfParams (f x)) → IsOfParams (r >>= f)
of_bind (Ok x) f h k = k x
of_bind (Err error.NoMemory) f h k = tt
of_bind (Err error.OtherScheme) f h k = h
of_bind (Err error.Malformed) f h k = h
of_bind (Err (error.Twice d)) f h k = tt
of_bind (Err (error.Missing d)) f h k = tt
of_bind (Err (error.Bad d)) f h k = tt

of_cond : {A : Type 0} (b : Bool) (r q : Result A CredentialsError) → IsOfParams r → IsOfParams q → IsOfParams (cond b r q)
of_cond true r q h k = h
of_cond false r q h k = k

of_or_bad : (d : Directive) (o : Option (List ℕ)) → IsOfParams (or_bad d o)
of_or_bad d None = tt
of_or_bad d (Some text) = tt

of_said : (d : Directive) (o : Option AuthParam) → IsOfParams (said d o)
of_said d None = tt
of_said d (Some p) = of_or_bad d (value_text p.value)

of_optional : (d : Directive) (ps : List AuthParam) → IsOfParams (optional d ps)
unfolding optional
of_optional d ps = of_cond (nat_lt 1 (count_by (is_named d) ps)) (Err (error.Twice d)) (said d (find (is_named d) ps)) tt (of_said d (find (is_named d) ps))

of_required : (d : Directive) (o : Option (List ℕ)) → IsOfParams (required d o)
of_required d None = tt
of_required d (Some text) = tt

of_needed : (d : Directive) (ps : List AuthParam) → IsOfParams (needed d ps)
unfolding needed
of_needed d ps = of_bind (optional d ps) (required d) (of_optional d ps) (of_required d)

of_protection : (qop nc own : Option (List ℕ)) → IsOfParams (protection_said qop nc own)
unfolding protection_said
of_protection None nc own = tt
of_protection (Some qop) nc own =
    of_cond (not (str_eq_ignore_ascii_case qop (codes "auth"))) _ _ tt
    (of_bind (required directive.Nc nc) _ (of_required directive.Nc nc)
    (λ count. of_bind (required directive.Cnonce own) _ (of_required directive.Cnonce own)
    (λ client_nonce. of_cond (is_count count) (Ok (protection.Auth count client_nonce)) (Err (error.Bad directive.Nc)) tt tt)))

of_credentials : (ps : List AuthParam) → IsOfParams (credentials_said ps)
unfolding credentials_said
of_credentials ps =
    of_bind (needed directive.Username ps) _ (of_needed directive.Username ps) (λ username.
    of_bind (needed directive.Realm ps) _ (of_needed directive.Realm ps) (λ realm.
    of_bind (needed directive.Nonce ps) _ (of_needed directive.Nonce ps) (λ nonce.
    of_bind (needed directive.Uri ps) _ (of_needed directive.Uri ps) (λ uri.
    of_bind (needed directive.Response ps) _ (of_needed directive.Response ps) (λ response.
    of_bind (optional directive.Algorithm ps) _ (of_optional directive.Algorithm ps) (λ algorithm.
    of_bind (optional directive.Opaque ps) _ (of_optional directive.Opaque ps) (λ opaque.
    of_bind (optional directive.Qop ps) _ (of_optional directive.Qop ps) (λ qop.
    of_bind (optional directive.Nc ps) _ (of_optional directive.Nc ps) (λ nc.
    of_bind (optional directive.Cnonce ps) _ (of_optional directive.Cnonce ps) (λ own.
    of_bind (protection_said qop nc own) _ (of_protection qop nc own) (λ protection. tt)))))))))))

-- ---- what a value says

pub says : (text : List ℕ) (ps : List AuthParam) (r : Result Credentials CredentialsError) → HasParams text ps → Reads (λ c. c) r (credentials_said ps) → Says text r
says text ps (Ok c) h e = (ps, h, e)
says text ps (Err error.NoMemory) h e = tt
says text ps (Err error.OtherScheme) h (inl e) = absurd cc
says text ps (Err error.OtherScheme) h (inr e) = absurd (subst IsOfParams e (of_credentials ps))
says text ps (Err error.Malformed) h (inl e) = absurd cc
says text ps (Err error.Malformed) h (inr e) = absurd (subst IsOfParams e (of_credentials ps))
says text ps (Err (error.Twice d)) h (inl e) = absurd cc
says text ps (Err (error.Twice d)) h (inr e) = (ps, h, e)
says text ps (Err (error.Missing d)) h (inl e) = absurd cc
says text ps (Err (error.Missing d)) h (inr e) = (ps, h, e)
says text ps (Err (error.Bad d)) h (inl e) = absurd cc
says text ps (Err (error.Bad d)) h (inr e) = (ps, h, e)

module _ (text list : List ℕ) (cut : after_scheme text ≡ Some list) where
  -- it has one list
  one_list : (other : List ℕ) → IsDigest text other → other ≡ list
  one_list other h = some_is other list (sym (scheme_again text other h) ∙ cut)

  -- its parameters are found
  pub found : (ps : List AuthParam) → HasParams text ps → elements_of auth_param_at list ≡ Some ps
  found ps h = subst (λ (l : List ℕ). elements_of auth_param_at l ≡ Some ps) (one_list h.list h.digest) (params_again h.list ps h.are)

  -- what is found are its parameters
  pub has : (ps : List AuthParam) → elements_of auth_param_at list ≡ Some ps → HasParams text ps
  has ps e = let h = scheme_takes text list cut in record { list = list; digest = h; are = params_take list ps h.starts e }

  pub malformed : elements_of auth_param_at list ≡ None → Says text (Err error.Malformed)
  malformed e = (list, scheme_takes text list cut, λ ps h. (let k = params_again list ps h in absurd cc))

  pub none : elements_of auth_param_at list ≡ None → (ps : List AuthParam) → ¬ (HasParams text ps)
  none e ps h = let k = found ps h in absurd cc

  pub only : (ps other : List AuthParam) (r : Result Credentials CredentialsError) → elements_of auth_param_at list ≡ Some ps → Reads (λ c. c) r (credentials_said ps) → HasParams text other → Reads (λ c. c) r (credentials_said other)
  only ps other r e reads h = subst (λ (l : List AuthParam). Reads (λ c. c) r (credentials_said l)) (some_is ps other (sym e ∙ found other h)) reads
