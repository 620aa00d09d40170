pub mod CoversKept
pub mod RoundsKept
pub mod Regrouped
pub mod RegroupingKept
