-- Parts that are put together of exact parts are exact. Assumes nothing.
use Rattle.std.proofs.Common.{◌≡◌, ℕ, ◌+◌, ◌<◌, ◌≤◌, Bool, true, false, cond, ltb, List, [], ◌∷◌, ◌++◌, length, take, drop, Ok, Err, Result, sym, refl, ap, ◌∙◌, subst, inl, inr, append_assoc, append-nil, arith, length-append, length-drop}
use Rattle.std.proofs.lemmas.List.{append_cancel_left, drop_all, drop_at, drop-drop, get_or-drop, get_or-take, get_or_past, length-take-le, length-take, take-append-drop, take_at}
use Rattle.std.proofs.lemmas.Bool.{cases_lt, cond-false, cond-true, le-ltb, ltb-false}
use Rattle.tables.specs.Bytes.{Bytes}
use Rattle.tables.specs.Parts.{and_then, Reader, some_bytes, after, both, checked, alone, inside, turned, Anything, Nothing, Holds, Exact}

-- ---- results

pub ok_same : {X E : Type 0} {x y : X} → ◌≡◌ {A = Result X E} (Ok x) (Ok y) → x ≡ y
ok_same e = cc

pub err_not_ok : {X E P : Type 0} {e : E} {x : X} → ◌≡◌ {A = Result X E} (Err e) (Ok x) → P
err_not_ok h = let z : ◌≡◌ {A = ℕ} 0 1 = cc in absurd (omega arith)

pub and_then_ok : {X Y E : Type 0} (r : Result X E) (f : X → Result Y E) (y : Y) → and_then r f ≡ Ok y → (x : X) × (r ≡ Ok x) × (f x ≡ Ok y)
and_then_ok (Ok x) f y h = (x, refl, h)
and_then_ok (Err e) f y h = err_not_ok h

cond_ok : {X E : Type 0} (t : Bool) (x y : X) (e : E) → cond t (Ok x) (Err e) ≡ Ok y → (t ≡ true) × (x ≡ y)
cond_ok true x y e h = (refl, ok_same h)
cond_ok false x y e h = err_not_ok h

cond_not_ok : {X E : Type 0} (t : Bool) (x y : X) (e : E) → cond t (Err e) (Ok x) ≡ Ok y → (t ≡ false) × (x ≡ y)
cond_not_ok true x y e h = err_not_ok h
cond_not_ok false x y e h = (refl, ok_same h)

-- ---- what an exact part that anything may follow never accepts

module _ {X E : Type 0} {Lawful : X → Type 0} {read : Reader X E} (write : X → List ℕ)
    (back : (x : X) → Lawful x → (input : List ℕ) (at : ℕ) (rest : List ℕ) → Anything rest → drop at input ≡ write x ++ rest → read input at ≡ Ok (x, at + length (write x)))
  where
    -- two forms of which one begins the other are one
    pub same_front : (x y : X) → Lawful x → Lawful y → (a b : List ℕ) → write x ++ a ≡ write y ++ b → x ≡ y
    same_front x y l m a b e =
        let one : read (write x ++ a) 0 ≡ Ok (x, 0 + length (write x)) = back x l (write x ++ a) 0 a tt refl in
        let two : read (write x ++ a) 0 ≡ Ok (y, 0 + length (write y)) = back y m (write x ++ a) 0 b tt e in
        ap (λ p. p.0) (ok_same (sym one ∙ two))

    pub exact_of : ((input : List ℕ) (at : ℕ) → Bytes input → (x : X) (next : ℕ) → read input at ≡ Ok (x, next) → Holds Lawful Anything write input at x next)
        → Exact Lawful Anything read write
    exact_of only = record { back = back; only = only; whole = whole }
      where
        whole : (x : X) → Lawful x → (input : List ℕ) (at : ℕ) → Bytes input → (b : ℕ) (more : List ℕ) → write x ≡ drop at input ++ b ∷ more → (p : X × ℕ) → read input at ≡ Ok p → ⊥
        whole x l input at B b more e p h =
            let g : Holds Lawful Anything write input at p.0 p.1 = only input at B p.0 p.1 h in
            let f : write x ≡ write p.0 ++ (drop p.1 input ++ b ∷ more) = e ∙ ap (λ s. s ++ b ∷ more) g.form ∙ append_assoc (write p.0) (drop p.1 input) (b ∷ more) in
            let same : x ≡ p.0 = same_front x p.0 l g.lawful [] (drop p.1 input ++ b ∷ more) (append-nil (write x) ∙ f) in
            omega (arith, ap length f, ap (λ y. length (write y)) same, length-append (write p.0) (drop p.1 input ++ b ∷ more), length-append (drop p.1 input) (b ∷ more))

-- ---- one part behind another

module _ {X Y E : Type 0} {Lawful₁ : X → Type 0} {Lawful₂ : X → Y → Type 0} {Follows : List ℕ → Type 0}
    {first : Reader X E} {second : X → Reader Y E} {write₁ : X → List ℕ} {write₂ : X → Y → List ℕ}
    (one : Exact Lawful₁ Anything first write₁) (two : (x : X) → Lawful₁ x → Exact (Lawful₂ x) Follows (second x) (write₂ x))
  where
    abbrev Both : X × Y → Type 0
    Both p = Lawful₁ p.0 × Lawful₂ p.0 p.1

    after_parts : (input : List ℕ) (at : ℕ) (p : X × Y) (next : ℕ) → after first second input at ≡ Ok (p, next)
        → (mid : ℕ) × (first input at ≡ Ok (p.0, mid)) × (second p.0 input mid ≡ Ok (p.1, next))
    after_parts input at p next h =
        let a = and_then_ok (first input at) _ (p, next) h in
        let b = and_then_ok (second a.0.0 input a.0.1) _ (p, next) a.2 in
        let e : ◌≡◌ {A = (X × Y) × ℕ} ((a.0.0, b.0.0), b.0.1) (p, next) = ok_same b.2 in
        let ex : a.0.0 ≡ p.0 = ap (λ q. q.0.0) e in
        let ey : b.0.0 ≡ p.1 = ap (λ q. q.0.1) e in
        let en : b.0.1 ≡ next = ap (λ q. q.1) e in (
          a.0.1,
          a.1 ∙ ap (λ x. Ok (x, a.0.1)) ex,
          ap (λ x. second x input a.0.1) (sym ex) ∙ b.1 ∙ ap (λ y. Ok (y, b.0.1)) ey ∙ ap (λ n. Ok (p.1, n)) en,
        )

    pub after_exact : Exact Both Follows (after first second) (both write₁ write₂)
    after_exact = record { back = back; only = only; whole = whole }
      where
        back : (p : X × Y) → Both p → (input : List ℕ) (at : ℕ) (rest : List ℕ) → Follows rest → drop at input ≡ both write₁ write₂ p ++ rest → after first second input at ≡ Ok (p, at + length (both write₁ write₂ p))
        back p l input at rest f e =
            let w : List ℕ = write₁ p.0 in
            let v : List ℕ = write₂ p.0 p.1 in
            let front : drop at input ≡ w ++ (v ++ rest) = e ∙ append_assoc w v rest in
            let a : first input at ≡ Ok (p.0, at + length w) = one.back p.0 l.0 input at (v ++ rest) tt front in
            let behind : drop (at + length w) input ≡ v ++ rest = sym (drop-drop (length w) at input) ∙ ap (drop (length w)) front ∙ drop_at w (v ++ rest) (length w) refl in
            let b : second p.0 input (at + length w) ≡ Ok (p.1, at + length w + length v) = (two p.0 l.0).back p.1 l.1 input (at + length w) rest f behind in
            let n : at + length w + length v ≡ at + length (w ++ v) = omega (arith, length-append w v) in
            ap (λ r. and_then r (λ q. and_then (second q.0 input q.1) (λ s. Ok ((q.0, s.0), s.1)))) a
            ∙ ap (λ r. and_then r (λ s. Ok ((p.0, s.0), s.1))) b
            ∙ ap (λ k. Ok (p, k)) n

        only : (input : List ℕ) (at : ℕ) → Bytes input → (p : X × Y) (next : ℕ) → after first second input at ≡ Ok (p, next) → Holds Both Follows (both write₁ write₂) input at p next
        only input at B p next h =
            let w : List ℕ = write₁ p.0 in
            let v : List ℕ = write₂ p.0 p.1 in
            let s = after_parts input at p next h in
            let a : Holds Lawful₁ Anything write₁ input at p.0 s.0 = one.only input at B p.0 s.0 s.1 in
            let b : Holds (Lawful₂ p.0) Follows (write₂ p.0) input s.0 p.1 next = (two p.0 a.lawful).only input s.0 B p.1 next s.2 in
            record {
              lawful = (a.lawful, b.lawful);
              place = omega (arith, a.place, b.place, length-append w v);
              form = a.form ∙ ap (λ t. w ++ t) b.form ∙ sym (append_assoc w v (drop next input));
              follows = b.follows;
            }

        whole : (p : X × Y) → Both p → (input : List ℕ) (at : ℕ) → Bytes input → (b : ℕ) (more : List ℕ) → both write₁ write₂ p ≡ drop at input ++ b ∷ more → (q : (X × Y) × ℕ) → after first second input at ≡ Ok q → ⊥
        whole p l input at B b more e q h =
            let s = after_parts input at q.0 q.1 h in
            let a : Holds Lawful₁ Anything write₁ input at q.0.0 s.0 = one.only input at B q.0.0 s.0 s.1 in
            let f : write₁ p.0 ++ write₂ p.0 p.1 ≡ write₁ q.0.0 ++ (drop s.0 input ++ b ∷ more) =
            e ∙ ap (λ t. t ++ b ∷ more) a.form ∙ append_assoc (write₁ q.0.0) (drop s.0 input) (b ∷ more) in
            let same : p.0 ≡ q.0.0 = same_front write₁ one.back p.0 q.0.0 l.0 a.lawful (write₂ p.0 p.1) (drop s.0 input ++ b ∷ more) f in
            let f' : write₁ p.0 ++ write₂ p.0 p.1 ≡ write₁ p.0 ++ (drop s.0 input ++ b ∷ more) = f ∙ ap (λ x. write₁ x ++ (drop s.0 input ++ b ∷ more)) (sym same) in
            (two p.0 l.0).whole p.1 l.1 input s.0 B b more (append_cancel_left (write₁ p.0) _ _ f') (q.0.1, q.1)
            (ap (λ x. second x input s.0) same ∙ s.2)

-- ---- a part with a test, with nothing behind it, with its fault inside another, told in another way

module _ {X E : Type 0} {Lawful : X → Type 0} {read : Reader X E} {write : X → List ℕ} where
  pub checked_exact : {Follows : List ℕ → Type 0} (passes : X → Bool) (fault : ℕ → E) → Exact Lawful Follows read write
      → Exact (λ x. Lawful x × (passes x ≡ true)) Follows (checked read passes fault) write
  checked_exact {Follows} passes fault g = record { back = back; only = only; whole = whole }
    where
      parts : (input : List ℕ) (at : ℕ) (p : X × ℕ) → checked read passes fault input at ≡ Ok p → (read input at ≡ Ok p) × (passes p.0 ≡ true)
      parts input at p h =
          let a = and_then_ok (read input at) _ p h in
          let b = cond_ok (passes a.0.0) a.0 p (fault at) a.2 in
          (a.1 ∙ ap Ok b.1, ap (λ q. passes q.0) (sym b.1) ∙ b.0)

      back : (x : X) → Lawful x × (passes x ≡ true) → (input : List ℕ) (at : ℕ) (rest : List ℕ) → Follows rest → drop at input ≡ write x ++ rest → checked read passes fault input at ≡ Ok (x, at + length (write x))
      back x l input at rest f e =
          ap (λ r. and_then r (λ p. cond (passes p.0) (Ok p) (Err (fault at)))) (g.back x l.0 input at rest f e)
          ∙ cond-true (passes x) _ _ l.1

      only : (input : List ℕ) (at : ℕ) → Bytes input → (x : X) (next : ℕ) → checked read passes fault input at ≡ Ok (x, next) → Holds (λ x. Lawful x × (passes x ≡ true)) Follows write input at x next
      only input at B x next h =
          let s = parts input at (x, next) h in
          let a = g.only input at B x next s.0 in
          record { lawful = (a.lawful, s.1); place = a.place; form = a.form; follows = a.follows }

      whole : (x : X) → Lawful x × (passes x ≡ true) → (input : List ℕ) (at : ℕ) → Bytes input → (b : ℕ) (more : List ℕ) → write x ≡ drop at input ++ b ∷ more → (p : X × ℕ) → checked read passes fault input at ≡ Ok p → ⊥
      whole x l input at B b more e p h = g.whole x l.0 input at B b more e p (parts input at p h).0

  pub alone_exact : (left : ℕ → E) → Exact Lawful Anything read write → Exact Lawful Nothing (alone read left) write
  alone_exact left g = record { back = back; only = only; whole = whole }
    where
      parts : (input : List ℕ) (at : ℕ) (p : X × ℕ) → alone read left input at ≡ Ok p → (read input at ≡ Ok p) × (length input ≤ p.1)
      parts input at p h =
          let a = and_then_ok (read input at) _ p h in
          let b = cond_not_ok (ltb a.0.1 (length input)) a.0 p (left a.0.1) a.2 in
          (a.1 ∙ ap Ok b.1, subst (λ (q : X × ℕ). length input ≤ q.1) b.1 (ltb-false a.0.1 (length input) b.0))

      -- nothing is left behind a form at the end
      end : (input : List ℕ) (at : ℕ) (form rest : List ℕ) → Nothing rest → drop at input ≡ form ++ rest → length input ≤ at + length form
      end input at form rest f e = omega (arith, ap length e, length-append form rest, ap length f, length-drop at input)

      back : (x : X) → Lawful x → (input : List ℕ) (at : ℕ) (rest : List ℕ) → Nothing rest → drop at input ≡ write x ++ rest → alone read left input at ≡ Ok (x, at + length (write x))
      back x l input at rest f e =
          ap (λ r. and_then r (λ p. cond (ltb p.1 (length input)) (Err (left p.1)) (Ok p))) (g.back x l input at rest tt e)
          ∙ cond-false (ltb (at + length (write x)) (length input)) _ _ (le-ltb (at + length (write x)) (length input) (end input at (write x) rest f e))

      only : (input : List ℕ) (at : ℕ) → Bytes input → (x : X) (next : ℕ) → alone read left input at ≡ Ok (x, next) → Holds Lawful Nothing write input at x next
      only input at B x next h =
          let s = parts input at (x, next) h in
          let a = g.only input at B x next s.0 in
          record { lawful = a.lawful; place = a.place; form = a.form; follows = drop_all next input s.1 }

      whole : (x : X) → Lawful x → (input : List ℕ) (at : ℕ) → Bytes input → (b : ℕ) (more : List ℕ) → write x ≡ drop at input ++ b ∷ more → (p : X × ℕ) → alone read left input at ≡ Ok p → ⊥
      whole x l input at B b more e p h = g.whole x l input at B b more e p (parts input at p h).0

  pub inside_exact : {F : Type 0} {Follows : List ℕ → Type 0} (carried : E → F) → Exact Lawful Follows read write → Exact Lawful Follows (inside read carried) write
  inside_exact {F} {Follows} carried g =
      record {
        back = λ x l input at rest f e. ap lifted (g.back x l input at rest f e);
        only = λ input at B x next h. g.only input at B x next (parts (read input at) (x, next) h);
        whole = λ x l input at B b more e p h. g.whole x l input at B b more e p (parts (read input at) p h);
      }
    where
      lifted : Result (X × ℕ) E → Result (X × ℕ) F
      lifted r = elim r [ Ok p ↦ Ok p | Err e ↦ Err (carried e) ]

      parts : (r : Result (X × ℕ) E) (p : X × ℕ) → lifted r ≡ Ok p → r ≡ Ok p
      parts (Ok q) p h = ap Ok (ok_same h)
      parts (Err e) p h = err_not_ok h

  pub turned_exact : {Z : Type 0} {Lawful' : Z → Type 0} {Follows : List ℕ → Type 0} (tell : X → Z) (untold : Z → X)
      → ((x : X) → Lawful x → (untold (tell x) ≡ x) × Lawful' (tell x)) → ((z : Z) → Lawful' z → (tell (untold z) ≡ z) × Lawful (untold z))
      → Exact Lawful Follows read write → Exact Lawful' Follows (turned read tell) (λ z. write (untold z))
  turned_exact {Z} {Lawful'} {Follows} tell untold to from g = record { back = back; only = only; whole = whole }
    where
      parts : (input : List ℕ) (at : ℕ) (q : Z × ℕ) → turned read tell input at ≡ Ok q → (x : X) × (read input at ≡ Ok (x, q.1)) × (tell x ≡ q.0)
      parts input at q h =
          let a = and_then_ok (read input at) _ q h in
          let e : ◌≡◌ {A = Z × ℕ} (tell a.0.0, a.0.1) q = ok_same a.2 in
          (a.0.0, a.1 ∙ ap (λ n. Ok (a.0.0, n)) (ap (λ q. q.1) e), ap (λ q. q.0) e)

      back : (z : Z) → Lawful' z → (input : List ℕ) (at : ℕ) (rest : List ℕ) → Follows rest → drop at input ≡ write (untold z) ++ rest → turned read tell input at ≡ Ok (z, at + length (write (untold z)))
      back z l input at rest f e =
          ap (λ r. and_then r (λ p. Ok (tell p.0, p.1))) (g.back (untold z) (from z l).1 input at rest f e)
          ∙ ap (λ y. Ok (y, at + length (write (untold z)))) (from z l).0

      only : (input : List ℕ) (at : ℕ) → Bytes input → (z : Z) (next : ℕ) → turned read tell input at ≡ Ok (z, next) → Holds Lawful' Follows (λ z. write (untold z)) input at z next
      only input at B z next h =
          let s = parts input at (z, next) h in
          let a = g.only input at B s.0 next s.1 in
          let same : s.0 ≡ untold z = sym (to s.0 a.lawful).0 ∙ ap untold s.2 in
          record {
            lawful = subst Lawful' s.2 (to s.0 a.lawful).1;
            place = a.place ∙ ap (λ x. at + length (write x)) same;
            form = a.form ∙ ap (λ x. write x ++ drop next input) same;
            follows = a.follows;
          }

      whole : (z : Z) → Lawful' z → (input : List ℕ) (at : ℕ) → Bytes input → (b : ℕ) (more : List ℕ) → write (untold z) ≡ drop at input ++ b ∷ more → (q : Z × ℕ) → turned read tell input at ≡ Ok q → ⊥
      whole z l input at B b more e q h =
          let s = parts input at q h in
          g.whole (untold z) (from z l).1 input at B b more e (s.0, q.1) s.1

-- ---- the next n bytes

pub bytes_drop : (n : ℕ) (bs : List ℕ) → Bytes bs → Bytes (drop n bs)
bytes_drop n bs B i = rw get_or-drop (B (n + i))

bytes_take : (n : ℕ) (bs : List ℕ) → Bytes bs → Bytes (take n bs)
bytes_take n bs B i =
    elim (cases_lt i n) [
      | inl l ↦ subst (λ (x : ℕ). x < 256) (sym (get_or-take n bs i 0 l)) (B i)
      | inr g ↦ subst (λ (x : ℕ). x < 256) (sym (get_or_past (take n bs) i 0 (omega (arith, length-take n bs)))) (omega arith)
    ]

pub some_bytes_exact : {E : Type 0} (n : ℕ) (ended : ℕ → E) → Exact (λ bs. (length bs ≡ n) × Bytes bs) Anything (some_bytes n ended) (λ bs. bs)
some_bytes_exact {E} n ended = exact_of (λ bs. bs) back only
  where
    back : (bs : List ℕ) → (length bs ≡ n) × Bytes bs → (input : List ℕ) (at : ℕ) (rest : List ℕ) → Anything rest → drop at input ≡ bs ++ rest → some_bytes n ended input at ≡ Ok (bs, at + length bs)
    back bs l input at rest f e =
        cond-false (ltb (length (drop at input)) n) _ _ (le-ltb (length (drop at input)) n (omega (arith, ap length e, length-append bs rest, l.0)))
        ∙ ap (λ (t : List ℕ). Ok (t, at + n)) (ap (take n) e ∙ take_at bs rest n l.0)
        ∙ ap (λ (k : ℕ). Ok (bs, at + k)) (sym l.0)

    only : (input : List ℕ) (at : ℕ) → Bytes input → (bs : List ℕ) (next : ℕ) → some_bytes n ended input at ≡ Ok (bs, next) → Holds (λ bs. (length bs ≡ n) × Bytes bs) Anything (λ bs. bs) input at bs next
    only input at B bs next h =
        let c = cond_not_ok (ltb (length (drop at input)) n) (take n (drop at input), at + n) (bs, next) (ended (length input)) h in
        let room : n ≤ length (drop at input) = ltb-false (length (drop at input)) n c.0 in
        let is : take n (drop at input) ≡ bs = ap (λ p. p.0) c.1 in
        let end : at + n ≡ next = ap (λ p. p.1) c.1 in
        let long : length bs ≡ n = ap length (sym is) ∙ length-take-le n (drop at input) room in
        record {
          lawful = (long, subst Bytes is (bytes_take n (drop at input) (bytes_drop at input B)));
          place = omega arith;
          form = sym (take-append-drop n (drop at input)) ∙ ap (λ (t : List ℕ). t ++ drop n (drop at input)) is ∙ ap (λ (t : List ℕ). bs ++ t) (drop-drop n at input ∙ ap (λ (k : ℕ). drop k input) end);
          follows = tt;
        }
