-- What holds at the beginning of a walk, and so after every step.
use Rattle.std.proofs.Common.{◌≡◌, ℕ, suc, ◌<◌, ◌≤◌, true, false, ◌⊎◌, List, [], ◌∷◌, length, sym, refl, ap, ◌∙◌, subst, inl, inr, arith}
use Rattle.std.proofs.lemmas.Bool.{cases_Bool, true≢false}
use Rattle.search.specs.Systems.{System, Lawful}
use Rattle.search.specs.Rows.{Row, class_at, first_row, Trail, Before}
use Rattle.search.specs.Walks.{Phase, Empty, Stage, Enters, Begins, After, Step, Steps, none, more, Walked}
use Rattle.search.proofs.Trails.{along, along_start, trail_below}
use Rattle.search.proofs.Pairs.{done_none}
use Rattle.search.proofs.Unique.{same_stage}
use Rattle.search.proofs.Breadth.{Kept, Front, Told, Sound, settle}
use Rattle.search.proofs.Stepping.{stepped}

module _ (y : System) (laws : Lawful y) (capacity : ℕ) where
  kept_none : Kept y capacity 0 [] []
  kept_none = record {
    whole = record {
      first = λ h. absurd (omega arith);
      came = λ k pos h. absurd (omega arith);
      apart = λ a b ab h e. absurd (omega arith);
    };
    few = omega arith;
    ordered = λ a b path other t u h. absurd (omega (arith, (trail_below t).0));
    pairs = λ p l a. absurd a;
    once = tt;
    count = refl;
    most = omega arith;
  }

  sound_nowhere : ((s : y.Class) → y.In [] s → ⊥) → Sound y capacity 0 (record { rows = []; tried = []; phase = Empty })
  sound_nowhere out =
      (kept_none, ((λ p l w. absurd (omega (arith, w.0.0))), (λ k h e. absurd (omega arith)), λ path s i e. let r = along_start y laws (along y laws path s i) in out r.0 r.1))

  module _ (room : 0 < capacity) (s : y.Class) (i : y.In [] s) where
    abbrev only : List (Row y)
    only = first_row y s ∷ []

    alone : {k : ℕ} {path : List ℕ} → Trail y only k path → length path ≤ 0
    alone t = omega (arith, trail_below t)

    kept_first : Kept y capacity 0 only []
    kept_first = record {
      whole = record {
        first = λ h. (i, refl);
        came = λ k pos h. absurd (omega arith);
        apart = λ a b ab h e. absurd (omega arith);
      };
      few = omega arith;
      ordered = λ a b path other t u h. omega (arith, alone t);
      pairs = λ p l a. absurd a;
      once = tt;
      count = refl;
      most = omega arith;
    }

    class_first : (k : ℕ) → k < 1 → class_at only k ≡ s
    class_first k h = let z : k ≡ 0 = omega arith in ap (λ (x : ℕ). class_at only x) z

    front_first : y.final s ≡ false → Front y capacity 0 only [] 0 0
    front_first other = record {
      kept = kept_first;
      held = omega arith;
      link = omega arith;
      near = λ k path above t u. omega (arith, alone t);
      closed = λ k m t path h b g u. absurd (nothing k m b);
      plain = λ k h e. true≢false (sym e ∙ ap y.final (class_first k h) ∙ other);
      rank = omega arith;
      done = done_none y only [] refl;
    }
      where
        nothing : (k m : ℕ) → Before k m 0 0 → ⊥
        nothing k m (inl b) = omega arith
        nothing k m (inr b) = omega arith

    sound_first : (f : Phase) → Enters y only [] 0 f → Sound y capacity 0 (record { rows = only; tried = []; phase = f })
    sound_first f e = go (cases_Bool (y.final s))
      where
        go : (y.final s ≡ true) ⊎ (y.final s ≡ false) → Sound y capacity 0 (record { rows = only; tried = []; phase = f })
        go (inl fin) =
            (kept_first, subst (Told y capacity 0 only []) (sym (e.0 fin)) (omega arith, fin, (λ a h x. omega arith), λ path t other r j x. omega (arith, alone t)))
        go (inr fin) = (kept_first, settle y laws capacity 0 only [] 0 0 (front_first fin) f (e.1 fin))

  sound_begins : 0 < capacity → (z : Stage y) → Begins y z → Sound y capacity 0 z
  sound_begins room z (inl b) =
      let e : z ≡ record { rows = []; tried = []; phase = Empty } = same_stage y z (record { rows = []; tried = []; phase = Empty }) b.rows b.tried b.phase in
      subst (Sound y capacity 0) (sym e) (sound_nowhere b.none)
  sound_begins room z (inr (s, b)) =
      let e : z ≡ record { rows = first_row y s ∷ []; tried = []; phase = z.phase } = same_stage y z (record { rows = first_row y s ∷ []; tried = []; phase = z.phase }) b.rows b.tried refl in
      subst (Sound y capacity 0) (sym e) (sound_first room s b.starts z.phase (subst (λ (x : List (Row y)). Enters y x [] 0 z.phase) b.rows b.phase))

  sound_step : (n : ℕ) (v w : Stage y) → Sound y capacity n v → Step y capacity v w → Sound y capacity (suc n) w
  sound_step n v w s t =
      let o = subst (Told y capacity n v.rows v.tried) t.is_open s.1 in
      let a = subst (λ (x : List (ℕ × ℕ)). After y w.rows x t.outcome w.phase) t.tried t.after in
      let r = stepped y laws capacity n v.rows v.tried t.place t.link o.0 o.1 t.outcome w.rows w.phase t.tries a in
      subst (λ (x : List (ℕ × ℕ)). Kept y capacity (suc n) w.rows x × Told y capacity (suc n) w.rows x w.phase) (sym t.tried) r

  sound_steps : (from : Stage y) → Sound y capacity 0 from → {n : ℕ} {z : Stage y} → Steps y capacity from n z → Sound y capacity n z
  sound_steps from s {n} {z} (none e q) = subst (λ (x : ℕ). Sound y capacity x z) (sym e) (subst (Sound y capacity 0) (sym q) s)
  sound_steps from s {n} {z} (more {m = m} {v = v} a t e) = subst (λ (x : ℕ). Sound y capacity x z) (sym e) (sound_step m v z (sound_steps from s a) t)

  pub sound : (n : ℕ) (z : Stage y) → Walked y capacity n z → Sound y capacity n z
  sound n z w = sound_steps w.start (sound_begins w.room w.start w.begins) w.made
