mod Crowds
