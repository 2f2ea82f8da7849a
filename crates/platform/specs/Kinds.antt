-- What an access is for.
use Rattle.std.specs.Prelude.{Bool, true, false}
use Rattle.platform.specs.declared.access.Kind.{Kind}
use Rattle.platform.specs.declared.access.Kind.TheVariants.{Fetch, Load, Store, Push, Pop, Vector, Probe}

abbrev pub is_fetch : Kind → Bool
is_fetch Fetch = true
is_fetch Load = false
is_fetch Store = false
is_fetch Push = false
is_fetch Pop = false
is_fetch Vector = false
is_fetch Probe = false

abbrev pub is_load : Kind → Bool
is_load Fetch = false
is_load Load = true
is_load Store = false
is_load Push = false
is_load Pop = false
is_load Vector = false
is_load Probe = false

abbrev pub is_store : Kind → Bool
is_store Fetch = false
is_store Load = false
is_store Store = true
is_store Push = false
is_store Pop = false
is_store Vector = false
is_store Probe = false

-- a store, or a push of exception entry
abbrev pub is_write : Kind → Bool
is_write Fetch = false
is_write Load = false
is_write Store = true
is_write Push = true
is_write Pop = false
is_write Vector = false
is_write Probe = false

abbrev pub is_vector : Kind → Bool
is_vector Fetch = false
is_vector Load = false
is_vector Store = false
is_vector Push = false
is_vector Pop = false
is_vector Vector = true
is_vector Probe = false

-- a store exclusive that fails
abbrev pub is_probe : Kind → Bool
is_probe Fetch = false
is_probe Load = false
is_probe Store = false
is_probe Push = false
is_probe Pop = false
is_probe Vector = false
is_probe Probe = true
