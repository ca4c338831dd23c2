-- Computed examples of paths.
use Rattle.std.specs.Prelude.{◌≡◌, ◌++◌, [], ◌∷◌, codes, true, false, refl}
use Rattle.ii_base.specs.Paths.{segments_of, path_bytes}

pub two_segments : segments_of (codes "titi.toto") ≡ codes "titi" ∷ codes "toto" ∷ []
two_segments = refl

pub empty_last_segment : segments_of (codes "toto.") ≡ codes "toto" ∷ [] ∷ []
empty_last_segment = refl

pub empty_first_segment : segments_of (codes ".toto") ≡ [] ∷ codes "toto" ∷ []
empty_first_segment = refl

pub kept_dots : segments_of (codes "k8s\\.container\\.name") ≡ codes "k8s.container.name" ∷ []
kept_dots = refl

pub kept_backslash : segments_of (codes "toto\\\\titi") ≡ codes "toto\\titi" ∷ []
kept_backslash = refl

pub kept_letter : segments_of (codes "toto\\titi") ≡ codes "tototiti" ∷ []
kept_letter = refl

pub last_backslash : segments_of (codes "toto\\") ≡ codes "toto" ∷ []
last_backslash = refl

pub empty_path : segments_of [] ≡ [] ∷ []
empty_path = refl

pub path_of_two : path_bytes false (codes "bands" ∷ codes "band_name" ∷ []) ≡ codes "bands" ++ 1 ∷ codes "band_name"
path_of_two = refl

pub path_with_a_dot : path_bytes false (codes "k8s.node" ∷ []) ≡ codes "k8s.node"
path_with_a_dot = refl

pub path_with_an_expanded_dot : path_bytes true (codes "k8s.node" ∷ []) ≡ codes "k8s" ++ 1 ∷ codes "node"
path_with_an_expanded_dot = refl
