pub mod StoresGrounds
pub mod ListsOverwritten
pub mod StoresPut
pub mod StoresFilled
