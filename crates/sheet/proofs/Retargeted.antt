-- Instructions whose jumps were given other targets.
use Prim.Native.Nat.{ℕ, suc, ◌+◌, max}
use mathlib.Core.Path.{◌≡◌, refl, ap, ap₂}
use Rattle.sheet.specs.Sheet.{Simple, set, send, goto, Part, end, plain, when, either, count, retarget, retarget_part}
use Rattle.sheet.specs.Orders.{simple_size, simple_temporaries}
use Rattle.sheet.specs.Formed.{Leads, SimpleFormed}
use Rattle.sheet.specs.Condition.{asking}
use Rattle.sheet.specs.Translation.{size, starts, temporaries_of}
use Rattle.sheet.specs.Within.{PartFormed, depth}

-- ---- what does not change

module _ (to : ℕ → ℕ) where
  pub count_same : (x : Part) → count (retarget_part to x) ≡ count x
  unfolding count retarget_part
  count_same end = refl
  count_same (plain u l) = ap suc (count_same l)
  count_same (when c x l) = rw (count_same x, count_same l)
  count_same (either c x y l) = rw (count_same x, count_same y, count_same l)

  pub depth_same : (x : Part) → depth (retarget_part to x) ≡ depth x
  unfolding depth retarget_part
  depth_same end = refl
  depth_same (plain u l) = depth_same l
  depth_same (when c x l) = rw (depth_same x, depth_same l)
  depth_same (either c x y l) = rw (depth_same x, depth_same y, depth_same l)

  simple_temporaries_law : (u : Simple) → simple_temporaries (retarget to u) ≡ simple_temporaries u
  simple_temporaries_law (set w e) = refl
  simple_temporaries_law (send e) = refl
  simple_temporaries_law (goto s) = refl

  pub temporaries_same : (x : Part) → temporaries_of (retarget_part to x) ≡ temporaries_of x
  unfolding temporaries_of retarget_part
  temporaries_same end = refl
  temporaries_same (plain u l) = ap₂ max (simple_temporaries_law u) (temporaries_same l)
  temporaries_same (when c x l) = rw (temporaries_same x, temporaries_same l)
  temporaries_same (either c x y l) = rw (temporaries_same x, temporaries_same y, temporaries_same l)

module _ (v : ℕ) (to : ℕ → ℕ) where
  simple_size_law : (u : Simple) → simple_size v (retarget to u) ≡ simple_size v u
  simple_size_law (set w e) = refl
  simple_size_law (send e) = refl
  simple_size_law (goto s) = refl

  pub size_same : (x : Part) → size v (retarget_part to x) ≡ size v x
  unfolding size retarget_part
  size_same end = refl
  size_same (plain u l) = rw (simple_size_law u, size_same l)
  size_same (when c x l) = rw (size_same x, size_same l)
  size_same (either c x y l) = rw (size_same x, size_same y, size_same l)

  pub starts_same : (p : ℕ) (x : Part) → starts v p (retarget_part to x) ≡ starts v p x
  unfolding starts retarget_part
  starts_same p end = refl
  starts_same p (plain u l) = rw (simple_size_law u, starts_same (p + simple_size v u) l)
  starts_same p (when c x l) =
      let b = p + asking v c in
      rw (size_same x, starts_same b x, starts_same (b + size v x) l)
  starts_same p (either c x y l) =
      let b = p + asking v c in
      let d = b + size v x + 1 in
      rw (size_same x, size_same y, starts_same b x, starts_same d y, starts_same (d + size v y) l)

-- ---- there and back

module _ (v n : ℕ) (to back : ℕ → ℕ) (again : (s : ℕ) → Leads n s → back (to s) ≡ s) where
  simple_again : (u : Simple) → SimpleFormed v n u → retarget back (retarget to u) ≡ u
  simple_again (set w e) f = refl
  simple_again (send e) f = refl
  simple_again (goto s) f = ap goto (again s f)

  pub part_again : (x : Part) → PartFormed v n x → retarget_part back (retarget_part to x) ≡ x
  unfolding retarget_part PartFormed
  part_again end f = refl
  part_again (plain u l) f = ap₂ plain (simple_again u f.0) (part_again l f.1)
  part_again (when c x l) f = ap₂ (when c) (part_again x f.2) (part_again l f.3)
  part_again (either c x y l) f = rw (part_again x f.3, part_again y f.4, part_again l f.5)
