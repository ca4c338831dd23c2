pub mod StoreSources
