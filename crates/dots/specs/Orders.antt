-- The orders of the values.
use Rattle.std.specs.Prelude.{ℕ, List}
use Rattle.std.specs.declared.cmp.Ordering.{Ordering}
use Rattle.std.specs.Ordering.{nat_cmp, on, then_cmp}
use Rattle.std.specs.Cmp.Lexicographic.{slice_cmp}
use Rattle.dots.specs.declared.member.Member.{Member}
use Rattle.dots.specs.Values.{Dot, Stamp}

-- the order of dots: by site, then by count
abbrev pub dot_cmp : Dot → Dot → Ordering
dot_cmp = then_cmp (on (λ d. d.site) nat_cmp) (on (λ d. d.count) nat_cmp)

-- the order of stamps: by time, then by site
abbrev pub stamp_cmp : Stamp → Stamp → Ordering
stamp_cmp = then_cmp (on (λ s. s.time) nat_cmp) (on (λ s. s.site) nat_cmp)

-- the order of texts: by their bytes, a prefix first
abbrev pub text_cmp : List ℕ → List ℕ → Ordering
text_cmp = slice_cmp nat_cmp

-- the order of members: by queue, then by interface
abbrev pub member_cmp : Member → Member → Ordering
member_cmp = then_cmp (on (λ m. m.queue) nat_cmp) (on (λ m. m.interface) text_cmp)
