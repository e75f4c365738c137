-- Files stand for what a client did, and go on standing for it with each deed; so the front is the greatest version.
use Rattle.fs_types.proofs.Common.{◌≡◌, ◌≢◌, ◌≤◌, ℕ, List, [], ◌∷◌, ◌++◌, Contains, IsTrue, arith, inl, inr, ap, sym, subst}
use Rattle.fs_types.proofs.Common.{◌∙◌, refl, Contains-append_left, Contains-push, bytes_eq, bytes_eq-Decides, false_from_ne_true, if◌then◌else◌}
use Rattle.std.proofs.lemmas.Grind.{fold-append}
use Rattle.std.proofs.lemmas.List.Elements.{Contains-push_cases}
use Rattle.client_files.specs.Deeds.{Deed, opening, noting, telling, last_told, told_after, IsGreatestNoted}
use Rattle.client_files.specs.Deeds.{FrontIsGreatest, ToldStands}
use Rattle.client_files.specs.Deeds.{NotedStands, OpenedStands}
use Rattle.client_files.specs.Kept.{is_open_in, noted_in, told_in}
use Rattle.client_files.specs.Noted.{later_of, unseen}
use Rattle.client_files.specs.declared.noted.Noted.{Noted}
use Rattle.client_files.proofs.CallerLemmas.{changed-cases, later_of-cases, version-later_of}

-- a deed that notes nothing of a path leaves its greatest version
greatest-kept : (deeds : List Deed) (d : Deed) (p : List ℕ) (n : Noted) → ((m : Noted) → d ≢ noting p m) → IsGreatestNoted deeds p n
    → IsGreatestNoted (deeds ++ d ∷ []) p n
greatest-kept deeds d p n other is = record {
  greatest = λ m there. elim (Contains-push_cases deeds d (noting p m) there) [
    | inl before ↦ is.greatest m before
    | inr last ↦ absurd (other m last)
  ];
  noted = elim is.noted [
    | inl none ↦ inl none
    | inr before ↦ inr (Contains-append_left deeds (d ∷ []) (noting p n) before)
  ];
}

-- one more note of a path: the later of the two is the greatest
greatest-more : (deeds : List Deed) (p : List ℕ) (n m : Noted) → IsGreatestNoted deeds p n
    → IsGreatestNoted (deeds ++ noting p m ∷ []) p (later_of n m)
greatest-more deeds p n m is = record {
  greatest = λ k there. elim (Contains-push_cases deeds (noting p m) (noting p k) there) [
    | inl before ↦ omega (arith, is.greatest k before, version-later_of n m)
    | inr last ↦ let same : m ≡ k = cc in subst (λ x. x.version ≤ (later_of n m).version) same (omega (arith, version-later_of n m))
  ];
  noted = elim (later_of-cases n m) [
    | inl first ↦ elim is.noted [
      | inl none ↦ inl (first ∙ none)
      | inr before ↦ inr (Contains-append_left deeds (noting p m ∷ []) (noting p (later_of n m))
          (subst (λ x. Contains deeds (noting p x)) (sym first) before))
    ]
    | inr second ↦ inr (subst (λ x. Contains (deeds ++ noting p m ∷ []) (noting p x)) (sym second) (Contains-push deeds (noting p m)))
  ];
}

-- what was told last after one deed more
told-push : (deeds : List Deed) (d : Deed) (q : List ℕ) → last_told (deeds ++ d ∷ []) q ≡ told_after q (last_told deeds q) d
told-push deeds d q = fold-append (told_after q) unseen deeds (d ∷ [])

pub opened-stands : OpenedStands
opened-stands deeds old new board p changes stands = record {
  opened = λ q. (
    (λ is_open. elim (changed-cases changes q) [
      | inl here ↦ subst (λ r. Contains (deeds ++ opening p ∷ []) (opening r)) (sym here.0) (Contains-push deeds (opening p))
      | inr apart ↦ Contains-append_left deeds (opening p ∷ []) (opening q)
          ((stands.opened q).0 (subst (λ x. IsTrue x.is_open) apart.1 is_open))
    ]),
    (λ there. elim (changed-cases changes q) [
      | inl here ↦ subst (λ x. IsTrue x.is_open) (sym here.1) refl
      | inr apart ↦ subst (λ x. IsTrue x.is_open) (sym apart.1) ((stands.opened q).1
          (elim (Contains-push_cases deeds (opening p) (opening q) there) [
            | inl before ↦ before
            | inr last ↦ absurd (apart.0 (let same : q ≡ p = cc in same))
          ]))
    ]),
  );
  noted = λ q. greatest-kept deeds (opening p) q (noted_in new q) (λ m e. cc)
      (subst (IsGreatestNoted deeds q) (sym (noted_same q)) (stands.noted q));
  told = λ q. stands.told q ∙ sym (told-push deeds (opening p) q);
}
  where
    noted_same : (q : List ℕ) → noted_in new q ≡ noted_in old q
    noted_same q = elim (changed-cases changes q) [
      | inl here ↦ ap (λ x. x.noted) here.1 ∙ ap (noted_in old) (sym here.0)
      | inr apart ↦ ap (λ x. x.noted) apart.1
    ]

pub noted-stands : NotedStands
noted-stands deeds old new board p n changes stands = record {
  opened = λ q. (
    (λ is_open. Contains-append_left deeds (noting p n ∷ []) (opening q)
        ((stands.opened q).0 (subst (λ b. IsTrue b) (open_same q) is_open))),
    (λ there. subst (λ b. IsTrue b) (sym (open_same q)) ((stands.opened q).1
        (elim (Contains-push_cases deeds (noting p n) (opening q) there) [ inl before ↦ before | inr last ↦ absurd cc ]))),
  );
  noted = λ q. elim (changed-cases changes q) [
    | inl here ↦ subst (λ r. IsGreatestNoted (deeds ++ noting p n ∷ []) r (noted_in new q)) (sym here.0)
        (subst (λ x. IsGreatestNoted (deeds ++ noting p n ∷ []) p x.noted) (sym here.1)
        (greatest-more deeds p (noted_in old p) n (stands.noted p)))
    | inr apart ↦ subst (λ x. IsGreatestNoted (deeds ++ noting p n ∷ []) q x.noted) (sym apart.1)
        (greatest-kept deeds (noting p n) q (noted_in old q) (λ m e. apart.0 (let same : q ≡ p = cc in same)) (stands.noted q))
  ];
  told = λ q. stands.told q ∙ sym (told-push deeds (noting p n) q);
}
  where
    open_same : (q : List ℕ) → is_open_in new q ≡ is_open_in old q
    open_same q = elim (changed-cases changes q) [
      | inl here ↦ ap (λ x. x.is_open) here.1 ∙ ap (is_open_in old) (sym here.0)
      | inr apart ↦ ap (λ x. x.is_open) apart.1
    ]

pub told-stands : ToldStands
told-stands deeds files old new p n changes stands = record {
  opened = λ q. (
    (λ is_open. Contains-append_left deeds (telling p n ∷ []) (opening q) ((stands.opened q).0 is_open)),
    (λ there. (stands.opened q).1
        (elim (Contains-push_cases deeds (telling p n) (opening q) there) [ inl before ↦ before | inr last ↦ absurd cc ])),
  );
  noted = λ q. greatest-kept deeds (telling p n) q (noted_in files q) (λ m e. cc) (stands.noted q);
  told = λ q. told_now q ∙ sym (told-push deeds (telling p n) q);
}
  where
    told_now : (q : List ℕ) → told_in new q ≡ (if bytes_eq q p then n else last_told deeds q)
    told_now q = elim (changed-cases changes q) [
      | inl here ↦ here.1 ∙ sym (ap (λ b. if b then n else last_told deeds q) ((bytes_eq-Decides q p).1 here.0))
      | inr apart ↦ apart.1 ∙ stands.told q
          ∙ sym (ap (λ b. if b then n else last_told deeds q) (false_from_ne_true (bytes_eq q p) (λ same. apart.0 ((bytes_eq-Decides q p).0 same))))
    ]

pub front-is-greatest : FrontIsGreatest
front-is-greatest deeds files board p stands =
    let noted = noted_in files p in
    let told = told_in board p in
    let last : told_in board p ≡ last_told deeds p = stands.told p in
    let greatest = stands.noted p in
    record {
      noted = λ m there. omega (arith, greatest.greatest m there, version-later_of noted told);
      board = omega (arith, version-later_of noted told, ap (λ n. n.version) last);
      said = elim (later_of-cases noted told) [
        | inl first ↦ elim greatest.noted [
          | inl none ↦ inl (first ∙ none)
          | inr there ↦ inr (inr (subst (λ x. Contains deeds (noting p x)) (sym first) there))
        ]
        | inr second ↦ inr (inl (second ∙ last))
      ];
    }
