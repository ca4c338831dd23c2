pub mod Chain
pub mod LivingDocs
